use Rattle.laws_house.proofs.Places.{checkpoints_release}
use Rattle.laws_house.proofs.checkpoints_release.Goals as goal

pub returns : goal.returns
returns g c = checkpoints_release
