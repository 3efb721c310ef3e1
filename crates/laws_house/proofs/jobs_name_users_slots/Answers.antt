use Rattle.laws_house.proofs.Transparency.{jobs_name_users_slots}
use Rattle.laws_house.proofs.jobs_name_users_slots.Goals as goal

pub returns : goal.returns
returns c = jobs_name_users_slots
