use Rattle.std.proofs.Common.{◌≡◌, length}
use Rattle.fk_waits.specs.Turns.Turns.{AreMet, IsRoused, IsSound}
use Rattle.fk_waits.proofs.turns.turns.Turns.rouse_any.Given as goal

abbrev pub invariant-loop-who : goal.invariant-loop-who
invariant-loop-who l = record {
  sound : IsSound l.self.waits l.self.marks;
  roused : IsRoused l.fn.self.waits l.self.waits;
  met : AreMet l.fn.self.marks l.self.marks l.self.waits;
  room : l.self.marks.spare ≡ l.fn.self.marks.spare;
}

abbrev pub decreases-loop-who : goal.decreases-loop-who
decreases-loop-who l = length l.self.marks.ready
