use Rattle.fk_turns.proofs.InSteps.Ahead.{IsAhead, left_from}
use Rattle.fk_kernel.proofs.Scans.{IsUpBetween}
use Rattle.fk_kernel.proofs.kernel.Kernel.ready_between.Given as goal

-- each user there that is ready is yet to come
abbrev pub invariant-loop-at : goal.invariant-loop-at
invariant-loop-at l = IsAhead l.self.store (IsUpBetween l.self.store l.fn.after l.last l.besides) l.at

abbrev pub decreases-loop-at : goal.decreases-loop-at
decreases-loop-at l = left_from l.self.store l.at
