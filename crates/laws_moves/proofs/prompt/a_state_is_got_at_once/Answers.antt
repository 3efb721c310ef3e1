use Rattle.laws_moves.proofs.InPrompt.Prompt.{get_state_is_prompt, porters_get_state_is_prompt}
use Rattle.laws_moves.proofs.prompt.a_state_is_got_at_once.Goals as goal

pub returns-clause-user : goal.returns-clause-user
returns-clause-user c = get_state_is_prompt

pub returns-clause-porter : goal.returns-clause-porter
returns-clause-porter c = porters_get_state_is_prompt
