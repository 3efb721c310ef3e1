use Rattle.std.proofs.Common.{◌≡◌, true, length}
use Rattle.fk_paging.specs.Pagers.{state_of}
use Rattle.fk_pager.specs.Driven.{desk}
use Rattle.fk_pager.proofs.Searching.{AreToCome}
use Rattle.fk_pager.proofs.driver.PagedRun.wait.Given as goal

-- each whose fault may be taken is yet to come
abbrev pub invariant-loop-who : goal.invariant-loop-who
invariant-loop-who g l = l.leaders.1 ≡ true → AreToCome (desk l.self) l.self.host.kernel.store (state_of l.self.pager) l.leaders.0

abbrev pub decreases-loop-who : goal.decreases-loop-who
decreases-loop-who g l = length l.leaders.0
