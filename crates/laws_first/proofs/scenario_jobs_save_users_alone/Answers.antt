use Rattle.laws_first.proofs.Apart.{jobs_save_users_alone}
use Rattle.laws_first.proofs.scenario_jobs_save_users_alone.Goals as goal

pub returns : goal.returns
returns c = jobs_save_users_alone
