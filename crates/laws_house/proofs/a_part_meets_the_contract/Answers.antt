use Rattle.laws_house.proofs.Parts.{parts_meet_contract}
use Rattle.laws_house.proofs.a_part_meets_the_contract.Goals as goal

pub returns : goal.returns
returns g c = parts_meet_contract
