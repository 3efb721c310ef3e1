use Rattle.fk_changes.proofs.InReaders.Beneath.{IsOnWay}
use Rattle.fk_changes.proofs.readers.within.is_beneath.Given as goal

abbrev pub invariant-loop-at : goal.invariant-loop-at
invariant-loop-at l = IsOnWay l.store l.outer l.fn.object l.at

abbrev pub decreases-loop-at : goal.decreases-loop-at
decreases-loop-at l = l.at.space
