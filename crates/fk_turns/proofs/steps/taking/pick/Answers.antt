use Rattle.fk_turns.proofs.InSteps.Locked.{unless_some}
use Rattle.fk_turns.proofs.steps.taking.pick.Goals as goal

pub returns-in-Some-clause-placed : goal.returns-in-Some-clause-placed
returns-in-Some-clause-placed c = unless_some _ c.args.stays c.take_first.result c.take_first.ensures.placed
