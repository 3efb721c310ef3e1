use Rattle.fk_waits.proofs.InTurns.Roused.{length_none}
use Rattle.fk_waits.proofs.turns.turns.Turns.is_none_queued.Goals as goal

pub returns : goal.returns
returns c = length_none c.len.result c.args.self.now.waits.queued c.len.ensures
