use Rattle.laws_moves.proofs.InPrompt.Events.{steps_are_correct}
use Rattle.laws_moves.proofs.prompt.a_step_is_correct.Goals as goal

pub returns : goal.returns
returns c = steps_are_correct
