use Rattle.fk_store.proofs.freezing.thaw.thaw.Goals as goal

pub loop-next-smaller : goal.loop-next-smaller
loop-next-smaller c = rw c.in-Some.is c.thaw_next-next.ensures.falls

pub thaw_next-next-requires-clause-slot : goal.thaw_next-next-requires-clause-slot
thaw_next-next-requires-clause-slot c = rw c.in-Some.is at c.loop-next.invariant.slot
