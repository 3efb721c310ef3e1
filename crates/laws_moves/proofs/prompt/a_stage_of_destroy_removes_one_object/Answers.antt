use Rattle.laws_moves.proofs.InPrompt.Destroying.{users_destroy_one, porters_destroy_one}
use Rattle.laws_moves.proofs.prompt.a_stage_of_destroy_removes_one_object.Goals as goal

pub returns-clause-user : goal.returns-clause-user
returns-clause-user c = users_destroy_one

pub returns-clause-porter : goal.returns-clause-porter
returns-clause-porter c = porters_destroy_one
