use Rattle.std.proofs.Common.{◌≡◌, true, length}
use Rattle.fk_model.specs.Freezing.{may_follow}
use Rattle.fk_store.specs.Store.Paths.{path, place}
use Rattle.fk_store.specs.Store.World.{world}
use Rattle.fk_store.proofs.InStore.finding.Lefts.{AreLeft}
use Rattle.fk_changes.proofs.InDeaths.Sweeps.{IsBarred}
use Rattle.fk_plans.proofs.plans.renaming.may_all_follow.Given as goal

-- whoever leads there and may not follow is yet to come
abbrev pub invariant-loop-other : goal.invariant-loop-other
invariant-loop-other l = record {
  left : l.leaders.1 ≡ true → AreLeft (path l.store)
      (IsBarred l.store (place (path l.store) l.renamed) (may_follow (world l.store) (place (path l.store) l.me) (place (path l.store) l.renamed))) l.leaders.0;
}

abbrev pub decreases-loop-other : goal.decreases-loop-other
decreases-loop-other l = length l.leaders.0
