use Rattle.laws_first.proofs.Users.{scenario_jobs_name_users_slots}
use Rattle.laws_first.proofs.scenario_jobs_name_users_slots.Goals as goal

pub returns : goal.returns
returns c = scenario_jobs_name_users_slots
