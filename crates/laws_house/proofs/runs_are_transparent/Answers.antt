use Rattle.laws_house.proofs.Transparency.{runs_transparent}
use Rattle.laws_house.proofs.runs_are_transparent.Goals as goal

pub returns : goal.returns
returns g c = runs_transparent
