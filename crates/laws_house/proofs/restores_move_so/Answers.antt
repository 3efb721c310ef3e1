use Rattle.laws_house.proofs.Places.{restores_move_so}
use Rattle.laws_house.proofs.restores_move_so.Goals as goal

pub returns : goal.returns
returns g c = restores_move_so
