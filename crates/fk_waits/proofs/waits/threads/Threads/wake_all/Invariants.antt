use Rattle.std.proofs.Common.{◌≡◌}
use Rattle.fk_waits.specs.Waits.Threads.{AreThere, Pairs}
use Rattle.fk_waits.proofs.InWaits.AllWoken.{AreTurned}
use Rattle.fk_waits.proofs.waits.threads.Threads.wake_all.Given as goal

abbrev pub invariant-loop-at : goal.invariant-loop-at
invariant-loop-at l = record {
  turned : (k : Pairs) → AreThere l.fn.self k → AreTurned l.self l._at k;
  seats : l.self.causes.seats ≡ l.fn.self.causes.seats;
}
