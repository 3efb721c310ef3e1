use Rattle.fk_report.proofs.ThreadScans.{AreOver, left_from}
use Rattle.fk_report.proofs.resting.all_halted.Given as goal

-- each user thread has halted, or is yet to come
abbrev pub invariant-loop-at : goal.invariant-loop-at
invariant-loop-at l = AreOver l.store l.at

abbrev pub decreases-loop-at : goal.decreases-loop-at
decreases-loop-at l = left_from l.at
