use Rattle.std.proofs.Common.{length}
use Rattle.fk_pager.proofs.driver.PagedRun.first_fault.Given as goal

abbrev pub decreases-loop-who : goal.decreases-loop-who
decreases-loop-who g l = length l.leaders.0
