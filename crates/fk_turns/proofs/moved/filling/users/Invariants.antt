use Rattle.std.specs.Prelude.{⊤}
use Rattle.fk_changes.proofs.InDeaths.Scans.{left_from}
use Rattle.fk_turns.proofs.moved.filling.users.Given as goal

abbrev pub invariant-loop-at : goal.invariant-loop-at
invariant-loop-at l = ⊤

abbrev pub decreases-loop-at : goal.decreases-loop-at
decreases-loop-at l = left_from l.at
