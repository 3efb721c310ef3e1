use Rattle.fk_turns.proofs.InSteps.Went.{off_anyway}
use Rattle.fk_turns.proofs.steps.going.go_silently.Goals as goal

pub returns-then-proceed_stage-clause-placed : goal.returns-then-proceed_stage-clause-placed
returns-then-proceed_stage-clause-placed c = rw c.if-proceed_stage.true at c.proceed_stage.ensures.placed

pub returns-clause-placed : goal.returns-clause-placed
returns-clause-placed c = off_anyway c.args.stays tt
