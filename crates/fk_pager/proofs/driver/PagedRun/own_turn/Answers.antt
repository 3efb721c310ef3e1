use Rattle.fk_pager.proofs.driver.PagedRun.own_turn.Goals as goal

pub unreachable-unreachable : goal.unreachable-unreachable
unreachable-unreachable g c = (rw c.if-branch.false at c.in_ok-try_own.ensures.unready) c.requires.ready.own
