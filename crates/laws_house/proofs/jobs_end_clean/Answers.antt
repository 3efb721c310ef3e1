use Rattle.laws_house.proofs.Places.{jobs_end_clean}
use Rattle.laws_house.proofs.jobs_end_clean.Goals as goal

pub returns : goal.returns
returns g c = jobs_end_clean
