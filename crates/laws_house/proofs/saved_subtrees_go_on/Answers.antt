use Rattle.laws_house.proofs.House.{saved_goes_on}
use Rattle.laws_house.proofs.saved_subtrees_go_on.Goals as goal

pub returns : goal.returns
returns g c = saved_goes_on
