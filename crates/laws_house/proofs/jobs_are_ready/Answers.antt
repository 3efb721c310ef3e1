use Rattle.laws_house.proofs.Moving.{jobs_are_ready}
use Rattle.laws_house.proofs.jobs_are_ready.Goals as goal

pub returns : goal.returns
returns g c = jobs_are_ready
