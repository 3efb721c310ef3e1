use Rattle.fk_objects.proofs.Ways.{IsOnWay}
use Rattle.fk_objects.proofs.locating.way_to.Given as goal

abbrev pub invariant-loop-at : goal.invariant-loop-at
invariant-loop-at l = IsOnWay l.store l.space l.fn.object l.at l.deep

abbrev pub decreases-loop-at : goal.decreases-loop-at
decreases-loop-at l = l.at.space
