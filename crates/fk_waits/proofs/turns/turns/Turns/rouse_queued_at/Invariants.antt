use Rattle.std.proofs.Common.{◌≡◌, length}
use Rattle.fk_waits.proofs.InTurns.Firsts.{those_at}
use Rattle.fk_waits.specs.Turns.Turns.{IsRoused}
use Rattle.fk_waits.proofs.turns.turns.Turns.rouse_queued_at.Given as goal

abbrev pub invariant-loop-who : goal.invariant-loop-who
invariant-loop-who l = record {
  roused : IsRoused l.fn.self.waits l.self.waits;
  marks : l.self.marks ≡ l.fn.self.marks;
}

abbrev pub decreases-loop-who : goal.decreases-loop-who
decreases-loop-who l = length (those_at l.key l.self.waits.queued)
