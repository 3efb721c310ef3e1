use Rattle.laws_house.proofs.House.{restores_make}
use Rattle.laws_house.proofs.restores_make.Goals as goal

pub returns : goal.returns
returns g c = restores_make
