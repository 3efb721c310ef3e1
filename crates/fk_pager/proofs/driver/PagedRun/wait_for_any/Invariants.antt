use Rattle.std.proofs.Common.{Some}
use Rattle.fk_store.specs.Store.World.{world, place_of}
use Rattle.laws_filled.specs.Pager.{IsOwn}
use Rattle.fk_paging.specs.Pagers.{state_of}
use Rattle.fk_pager.specs.Driven.{desk}
use Rattle.fk_pager.proofs.Searching.{IsAhead, left_from}
use Rattle.fk_pager.proofs.driver.PagedRun.wait_for_any.Given as goal

-- each whose fault may be taken is yet to come
abbrev pub invariant-loop-at : goal.invariant-loop-at
invariant-loop-at g l = IsAhead l.self.host.kernel.store
    (λ other. IsOwn (desk l.self) (world l.self.host.kernel.store) (state_of l.self.pager) (Some (place_of l.self.host.kernel.store other))) l.at

abbrev pub decreases-loop-at : goal.decreases-loop-at
decreases-loop-at g l = left_from l.self.host.kernel.store l.at
