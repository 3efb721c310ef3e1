use Rattle.laws_house.proofs.Moving.{restores_end_so}
use Rattle.laws_house.proofs.restores_end_so.Goals as goal

pub returns : goal.returns
returns g c = restores_end_so
