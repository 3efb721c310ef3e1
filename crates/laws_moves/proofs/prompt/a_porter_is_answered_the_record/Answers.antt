use Rattle.laws_moves.proofs.InPrompt.Correct.{get_state_answers}
use Rattle.laws_moves.proofs.prompt.a_porter_is_answered_the_record.Goals as goal

pub returns : goal.returns
returns c = get_state_answers
