use Rattle.fk_changes.proofs.InDeaths.Scans.{left_from}
use Rattle.fk_turns.proofs.InMoved.Filled.{AreFilled}
use Rattle.fk_turns.proofs.moved.filling.of.Given as goal

-- each user's thread stands, or is yet to come
abbrev pub invariant-loop-at : goal.invariant-loop-at
invariant-loop-at l = AreFilled l.store l.turns.waits l.turns.marks l.at

abbrev pub decreases-loop-at : goal.decreases-loop-at
decreases-loop-at l = left_from l.at
