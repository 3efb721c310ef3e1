use Rattle.laws_house.proofs.House.{jobs_meet_contract}
use Rattle.laws_house.proofs.jobs_meet_their_contract.Goals as goal

pub returns : goal.returns
returns g c = jobs_meet_contract
