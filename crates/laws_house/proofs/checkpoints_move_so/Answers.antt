use Rattle.laws_house.proofs.Places.{checkpoints_move_so}
use Rattle.laws_house.proofs.checkpoints_move_so.Goals as goal

pub returns : goal.returns
returns g c = checkpoints_move_so
