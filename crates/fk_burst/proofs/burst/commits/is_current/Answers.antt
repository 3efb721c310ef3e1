use Rattle.fk_burst.proofs.burst.commits.is_current.Goals as goal

pub is_as_taken-requires-clause-paged : goal.is_as_taken-requires-clause-paged
is_as_taken-requires-clause-paged c = rw c.store.ensures c.names.ensures.valid.paged

pub is_as_taken-requires-clause-born : goal.is_as_taken-requires-clause-born
is_as_taken-requires-clause-born c = rw c.store.ensures c.names.ensures.born

pub is_as_taken-requires-clause-ready : goal.is_as_taken-requires-clause-ready
is_as_taken-requires-clause-ready c = rw c.store.ensures (c.is_ready_to_run.ensures.0 c.if-is_ready_to_run.true)

pub returns-then-is_ready_to_run-clause-current : goal.returns-then-is_ready_to_run-clause-current
returns-then-is_ready_to_run-clause-current c = rw c.store.ensures at c.is_as_taken.ensures.current

pub returns-then-is_ready_to_run-clause-space : goal.returns-then-is_ready_to_run-clause-space
returns-then-is_ready_to_run-clause-space c = rw c.store.ensures at c.is_as_taken.ensures.space

pub returns-then-is_ready_to_run-clause-other : goal.returns-then-is_ready_to_run-clause-other
returns-then-is_ready_to_run-clause-other c = rw c.store.ensures at c.is_as_taken.ensures.other

pub returns-else-is_ready_to_run-clause-other : goal.returns-else-is_ready_to_run-clause-other
returns-else-is_ready_to_run-clause-other c = λ current.
    let so = c.is_ready_to_run.ensures.1 current.ready in
    let isnt = c.if-is_ready_to_run.false in
    cc
