use Rattle.fk_burst.proofs.InBurst.Leasing.{leased_ready, leased_so}
use Rattle.fk_burst.proofs.burst.leases.Leased.renew.Goals as goal

pub take-requires : goal.take-requires
take-requires c = rw c.store.ensures c.names.ensures.valid.paged

pub returns-then-is_ready_to_run-clause-ready : goal.returns-then-is_ready_to_run-clause-ready
returns-then-is_ready_to_run-clause-ready c =
    leased_ready c.args.k.now.store c.args.thread c.names.ensures.born c.take.result (c.is_ready_to_run.ensures.0 c.if-is_ready_to_run.true)
    (rw c.store.ensures at c.take.ensures.none)

pub returns-then-is_ready_to_run-clause-leased : goal.returns-then-is_ready_to_run-clause-leased
returns-then-is_ready_to_run-clause-leased c =
    leased_so c.args.k.now.store c.args.thread c.names.ensures.born c.take.result c.take.new.self (c.is_ready_to_run.ensures.0 c.if-is_ready_to_run.true)
    (rw c.store.ensures at c.take.ensures.some)

pub returns-else-is_ready_to_run-clause-ready : goal.returns-else-is_ready_to_run-clause-ready
returns-else-is_ready_to_run-clause-ready c = (
  (λ some. absurd (cc)),
  (λ ready.
      let so = c.is_ready_to_run.ensures.1 ready in
      let isnt = c.if-is_ready_to_run.false in
      absurd (cc)),
)
