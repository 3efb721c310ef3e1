use Rattle.laws_moves.proofs.InPrompt.Setting.{set_state_of_itself, porters_set_state_of_itself}
use Rattle.laws_moves.proofs.prompt.a_record_that_is_set_again_changes_nothing.Goals as goal

pub returns-clause-user : goal.returns-clause-user
returns-clause-user c = set_state_of_itself

pub returns-clause-porter : goal.returns-clause-porter
returns-clause-porter c = porters_set_state_of_itself
