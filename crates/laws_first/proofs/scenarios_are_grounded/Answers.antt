use Rattle.laws_first.proofs.Grounded.{scenarios_are_grounded}
use Rattle.laws_first.proofs.scenarios_are_grounded.Goals as goal

pub returns : goal.returns
returns g c = scenarios_are_grounded
