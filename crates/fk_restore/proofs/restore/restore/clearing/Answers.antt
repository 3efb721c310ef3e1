use Rattle.fk_restore.proofs.InRestore.Cleared.{calls_drop, calls_destroy}
use Rattle.fk_restore.proofs.restore.restore.clearing.Goals as goal

pub returns-then-dropped-lt-SCRATCH : goal.returns-then-dropped-lt-SCRATCH
returns-then-dropped-lt-SCRATCH c more port = rw c.from.ensures (calls_drop c.args.slot c.args.dropped more port c.if-dropped-lt-SCRATCH.true)

pub returns-else-dropped-lt-SCRATCH : goal.returns-else-dropped-lt-SCRATCH
returns-else-dropped-lt-SCRATCH c more port = rw c.from-else-dropped-lt-SCRATCH.ensures
    (calls_destroy c.args.slot c.args.dropped more port c.if-dropped-lt-SCRATCH.false)
