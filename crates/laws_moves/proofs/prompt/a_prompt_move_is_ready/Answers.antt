use Rattle.laws_moves.proofs.InPrompt.Events.{prompt_is_ready}
use Rattle.laws_moves.proofs.prompt.a_prompt_move_is_ready.Goals as goal

pub returns : goal.returns
returns c = prompt_is_ready
