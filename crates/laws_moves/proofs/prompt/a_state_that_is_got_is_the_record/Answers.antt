use Rattle.laws_moves.proofs.InPrompt.Correct.{get_state_shows}
use Rattle.laws_moves.proofs.prompt.a_state_that_is_got_is_the_record.Goals as goal

pub returns : goal.returns
returns c = get_state_shows
