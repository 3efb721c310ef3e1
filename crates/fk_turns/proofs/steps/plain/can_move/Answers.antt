use Rattle.fk_turns.proofs.InSteps.Beside.{move_if}
use Rattle.fk_turns.proofs.steps.plain.can_move.Goals as goal

pub returns : goal.returns
returns c = move_if c.args.store.now c.args.who c.ready.result c.ready.ensures.0
