use Rattle.laws_moves.proofs.InPrompt.Holding.{space_hold_is_prompt, porters_space_hold_is_prompt}
use Rattle.laws_moves.proofs.prompt.a_space_is_held_at_once.Goals as goal

pub returns-clause-user : goal.returns-clause-user
returns-clause-user c = space_hold_is_prompt

pub returns-clause-porter : goal.returns-clause-porter
returns-clause-porter c = porters_space_hold_is_prompt
