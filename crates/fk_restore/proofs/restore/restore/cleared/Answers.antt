use Rattle.fk_restore.proofs.InRestore.Cleared.{dropped_next, destroyed_next, over_next}
use Rattle.fk_restore.proofs.restore.restore.cleared.Goals as goal

pub returns-then-dropped-lt-SCRATCH-clause-state : goal.returns-then-dropped-lt-SCRATCH-clause-state
returns-then-dropped-lt-SCRATCH-clause-state c ss slot pairs bind rooms status words = dropped_next slot bind rooms status words c.args.dropped c.args.more c.args.port c.if-dropped-lt-SCRATCH.true

pub returns-then-more-gt0-clause-state : goal.returns-then-more-gt0-clause-state
returns-then-more-gt0-clause-state c ss slot pairs bind rooms status words = destroyed_next slot bind rooms status words c.args.dropped c.args.more c.args.port c.if-dropped-lt-SCRATCH.false c.if-more-gt0.true

pub returns-else-more-gt0-clause-state : goal.returns-else-more-gt0-clause-state
returns-else-more-gt0-clause-state c ss slot pairs bind rooms status words = over_next slot bind rooms status words c.args.dropped c.args.more c.args.port c.if-dropped-lt-SCRATCH.false c.if-more-gt0.false
