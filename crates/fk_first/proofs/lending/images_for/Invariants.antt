use Rattle.std.proofs.Common.{◌≤◌, ◌-◌, length}
use Rattle.fk_first.proofs.lending.images_for.Given as goal

abbrev pub invariant-loop-job : goal.invariant-loop-job
invariant-loop-job g l = length l.list.items ≤ length l.jobs

abbrev pub decreases-loop-job : goal.decreases-loop-job
decreases-loop-job g l = length l.jobs - length l.list.items
