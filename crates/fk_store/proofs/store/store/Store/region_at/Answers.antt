use Rattle.std.proofs.Common.{arith, sym, ◌∙◌}
use Rattle.fk_store.proofs.InStore.changing.Bare.{lowest-many}
use Rattle.fk_store.proofs.InStore.finding.ReachLaws.{lowest-zero, lowest-none, region-first, region-none, some_mapped, none_mapped}
use Rattle.fk_store.proofs.store.store.Store.region_at.Goals as goal

pub loop-slot-init : goal.loop-slot-init
loop-slot-init c = record { none = lowest-zero _; within = omega arith }

-- 16 slots without any
pub loop-slot-preserved-then-is_bare : goal.loop-slot-preserved-then-is_bare
loop-slot-preserved-then-is_bare c = record {
  none = lowest-many 16 c.loop-slot.slot _ c.loop-slot.invariant.none (λ k low high. (c.is_bare.ensures.bare c.if-is_bare.true c.args.page k low high).1);
  within = c.is_bare.ensures.within c.if-is_bare.true;
}

pub returns-then-is_some : goal.returns-then-is_some
returns-then-is_some c = region-first _
    _ _ c.loop-slot.slot (omega arith) _ c.loop-slot.invariant.none c.region_in-found.ensures (some_mapped _ _ (sym c.is_some.ensures ∙ c.if-is_some.true))

pub loop-slot-preserved : goal.loop-slot-preserved
loop-slot-preserved c = record {
  none = lowest-none c.loop-slot.slot _ c.loop-slot.invariant.none
      (sym c.region_in-found.ensures ∙ none_mapped _ _ (sym c.is_some.ensures ∙ c.if-is_some.false));
  within = omega arith;
}

pub returns : goal.returns
returns c = region-none _ _ _ c.loop-slot.slot (omega arith) c.loop-slot.invariant.within c.loop-slot.invariant.none
