use Rattle.std.proofs.Common.{◌≡◌, None, sym, subst, ◌∙◌, arith}
use Rattle.fk_model.specs.Searches.{lowest}
use Rattle.fk_store.specs.Store.Paths.{path}
use Rattle.fk_store.specs.Store.World.{world}
use Rattle.fk_store.proofs.InStore.finding.ReachLaws.{lowest-zero, lowest-none, lowest-first, some_mapped, none_mapped}
use Rattle.fk_pager.specs.Desks.{region_in, first_region}
use Rattle.fk_pager.proofs.desks.first_region.Goals as goal

pub loop-slot-init : goal.loop-slot-init
loop-slot-init c = lowest-zero _

pub returns-then-is_some : goal.returns-then-is_some
unfolding first_region
returns-then-is_some c = sym (lowest-first 256 c.loop-slot.slot (region_in (world c.args.store.now) (path c.args.store.now c.args.space)) _
    c.loop-slot.invariant
    (sym c.region_in-found.ensures) (some_mapped _ _ (sym c.is_some.ensures ∙ c.if-is_some.true)) (omega (arith, c.loop-slot-test.true)))

pub loop-slot-preserved : goal.loop-slot-preserved
loop-slot-preserved c = lowest-none c.loop-slot.slot _ c.loop-slot.invariant
    (sym c.region_in-found.ensures ∙ none_mapped _ _ (sym c.is_some.ensures ∙ c.if-is_some.false))

pub returns : goal.returns
unfolding first_region
returns c =
    let end : c.loop-slot.slot ≡ 256 = omega (arith, c.loop-slot-test.false, c.loop-slot.auto.slot-end) in
    sym (subst (λ n. lowest n (region_in (world c.args.store.now) (path c.args.store.now c.args.space)) ≡ None) end c.loop-slot.invariant)
