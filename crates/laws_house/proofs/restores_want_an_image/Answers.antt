use Rattle.laws_house.proofs.Places.{restores_want_an_image}
use Rattle.laws_house.proofs.restores_want_an_image.Goals as goal

pub returns : goal.returns
returns g c = restores_want_an_image
