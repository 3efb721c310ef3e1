use Rattle.fk_burst.proofs.InBurst.Leasing.{ready_running, unready_resting}
use Rattle.fk_burst.proofs.burst.leases.is_ready_to_run.Goals as goal

pub returns-then-is_running : goal.returns-then-is_running
returns-then-is_running c =
    ready_running c.args.k.now.store c.args.thread c.names.ensures.born c.is_running.result (rw c.store.ensures at c.is_running.ensures) c.is_ready.result
    c.if-is_running.true c.is_ready.ensures

pub returns-else-is_running : goal.returns-else-is_running
returns-else-is_running c =
    unready_resting c.args.k.now.store c.args.thread c.names.ensures.born c.is_running.result (rw c.store.ensures at c.is_running.ensures) c.if-is_running.false
