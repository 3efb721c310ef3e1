use Rattle.laws_house.proofs.Moving.{restores_leave_the_rest}
use Rattle.laws_house.proofs.restores_leave_the_rest.Goals as goal

pub returns : goal.returns
returns g c = restores_leave_the_rest
