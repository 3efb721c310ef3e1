use Rattle.std.proofs.Common.{◌≡◌, true, length}
use Rattle.fk_model.specs.Freezing.{may_be_swept}
use Rattle.fk_store.specs.Store.Paths.{path, place}
use Rattle.fk_store.specs.Store.World.{world}
use Rattle.fk_store.proofs.InStore.finding.Lefts.{AreLeft}
use Rattle.fk_changes.proofs.InDeaths.Sweeps.{IsBarred}
use Rattle.fk_changes.proofs.deaths.swept.may_all_be_swept.Given as goal

-- whoever leads there and may not be swept is yet to come
abbrev pub invariant-loop-who : goal.invariant-loop-who
invariant-loop-who l = record {
  left : l.leaders.1 ≡ true → AreLeft (path l.store)
      (IsBarred l.store (place (path l.store) l.gone) (may_be_swept (world l.store) (place (path l.store) l.me) (place (path l.store) l.gone))) l.leaders.0;
}

abbrev pub decreases-loop-who : goal.decreases-loop-who
decreases-loop-who l = length l.leaders.0
