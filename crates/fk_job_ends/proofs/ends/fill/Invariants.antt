use Rattle.std.proofs.Common.{◌≡◌, ◌++◌, ◌-◌, None, length, replicate}
use Rattle.fk_job_ends.proofs.ends.fill.Given as goal

abbrev pub invariant-loop-told : goal.invariant-loop-told
invariant-loop-told l = l.told ++ replicate (l.count - length l.told) None ≡ l.fn.told ++ replicate (l.count - length l.fn.told) None

abbrev pub decreases-loop-told : goal.decreases-loop-told
decreases-loop-told l = l.count - length l.told
