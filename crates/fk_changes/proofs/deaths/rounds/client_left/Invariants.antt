use Rattle.std.proofs.Common.{◌≡◌, ◌≢◌, true, [], length}
use Rattle.fk_store.specs.Store.Paths.{path, place}
use Rattle.fk_store.specs.Store.World.{world}
use Rattle.fk_changes.specs.Deaths.Ends.{ends_at}
use Rattle.fk_store.proofs.InStore.finding.Lefts.{AreLeft}
use Rattle.fk_changes.proofs.deaths.rounds.client_left.Given as goal

-- whoever has a call that ends is yet to come
abbrev pub invariant-loop-who : goal.invariant-loop-who
invariant-loop-who l = record {
  left : l.leaders.1 ≡ true → AreLeft (path l.store) (λ x. ends_at (world l.store) (place (path l.store) l.port) x ≢ []) l.leaders.0;
}

abbrev pub decreases-loop-who : goal.decreases-loop-who
decreases-loop-who l = length l.leaders.0
