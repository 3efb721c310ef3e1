use Rattle.laws_house.proofs.House.{checkpoints_leave_the_rest}
use Rattle.laws_house.proofs.checkpoints_leave_the_rest.Goals as goal

pub returns : goal.returns
returns g c = checkpoints_leave_the_rest
