use Rattle.laws_house.proofs.House.{checkpoints_are_brief}
use Rattle.laws_house.proofs.checkpoints_are_brief.Goals as goal

pub returns : goal.returns
returns g c = checkpoints_are_brief
