use Rattle.std.proofs.Common.{◌≡◌, ◌/◌, Some, sym, ap, subst, ◌∙◌, arith}
use Rattle.fk_store.specs.Store.Paths.{path}
use Rattle.fk_store.specs.Store.World.{world}
use Rattle.laws_bursts.specs.Bursts.{Burst, made}
use Rattle.fk_stretch.specs.Stretches.{burst_in, StoresNext}
use Rattle.fk_stretch.proofs.Steps.{else_stays, none_made, one_more}
use Rattle.fk_stretch.proofs.stretch.run_in.Goals as goal

pub loop-event-init : goal.loop-event-init
loop-event-init c = none_made _

pub instruct-requires : goal.instruct-requires
instruct-requires c =
    let m = c.args.store.now in
    let same : c.loop-event.running.counter / 64 ≡ c.args.running.now.counter / 64 = c.if-running-page.false in
    record { there = c.requires.there ∙ ap ((world m).page (path m c.args.space)) (sym same) }

pub loop-event-preserved : goal.loop-event-preserved
loop-event-preserved c = one_more c.loop-event.event _ _ _ c.loop-event.invariant (rw c.in-Nothing.is at c.instruct.ensures)

pub returns-in-Stores-clause-made : goal.returns-in-Stores-clause-made
returns-in-Stores-clause-made c =
    let both = rw c.in-Stores.is at c.instruct.ensures in c.loop-event.invariant ∙ ap (λ (b : Burst). Some b) (sym both.0)

pub returns-in-Stores-clause-stores : goal.returns-in-Stores-clause-stores
returns-in-Stores-clause-stores c =
    let both = rw c.in-Stores.is at c.instruct.ensures in
    (c.loop-event-test.true, subst (λ (b : Burst). StoresNext b c.in-Stores.address c.in-Stores.value) (sym both.0) both.1)

pub returns-in_default-clause-made : goal.returns-in_default-clause-made
returns-in_default-clause-made c =
    c.loop-event.invariant ∙ ap (λ (b : Burst). Some b) (sym (else_stays _ _ c.instruct.result c.instruct.ensures c.in_default.not-Nothing))

pub returns-clause-made : goal.returns-clause-made
returns-clause-made c =
    let m = c.args.store.now in
    let all : c.args.most ≡ c.loop-event.event = omega arith in
    subst (λ n. made n (burst_in (world m) (path m c.args.space) c.args.running.now) ≡ Some (burst_in (world m) (path m c.args.space) c.loop-event.running))
    (sym all) c.loop-event.invariant
