use Rattle.fk_turns.proofs.InSteps.Went.{length_none}
use Rattle.fk_turns.proofs.steps.plain.is_none_queued.Goals as goal

pub returns : goal.returns
returns c = let same = c.waits.ensures in length_none c.len.result c.args.turns.now.waits.queued (rw same at c.len.ensures)
