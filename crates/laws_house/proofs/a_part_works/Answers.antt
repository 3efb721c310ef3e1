use Rattle.laws_house.proofs.Parts.{parts_work}
use Rattle.laws_house.proofs.a_part_works.Goals as goal

pub returns : goal.returns
returns g c = parts_work
