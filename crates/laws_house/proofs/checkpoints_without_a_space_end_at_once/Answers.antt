use Rattle.laws_house.proofs.Once.{gone_at_once}
use Rattle.laws_house.proofs.checkpoints_without_a_space_end_at_once.Goals as goal

pub returns : goal.returns
returns g c = gone_at_once
