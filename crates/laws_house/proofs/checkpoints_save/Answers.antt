use Rattle.laws_house.proofs.House.{checkpoints_save}
use Rattle.laws_house.proofs.checkpoints_save.Goals as goal

pub returns : goal.returns
returns g c = checkpoints_save
