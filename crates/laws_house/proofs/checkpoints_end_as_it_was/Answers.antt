use Rattle.laws_house.proofs.House.{checkpoints_end_as_it_was}
use Rattle.laws_house.proofs.checkpoints_end_as_it_was.Goals as goal

pub returns : goal.returns
returns g c = checkpoints_end_as_it_was
