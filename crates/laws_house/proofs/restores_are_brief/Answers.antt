use Rattle.laws_house.proofs.House.{restores_are_brief}
use Rattle.laws_house.proofs.restores_are_brief.Goals as goal

pub returns : goal.returns
returns g c = restores_are_brief
