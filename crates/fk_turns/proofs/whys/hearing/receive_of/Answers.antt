use Rattle.fk_turns.proofs.InWhys.Hearing.{named_stage}
use Rattle.fk_turns.proofs.whys.hearing.receive_of.Goals as goal

pub returns-in-Calling : goal.returns-in-Calling
returns-in-Calling c p = named_stage p c.args.thread.now c.receive_named.result c.in-Calling.is c.receive_named.ensures
