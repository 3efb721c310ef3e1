use Rattle.laws_house.proofs.Places.{restores_want_their_maker}
use Rattle.laws_house.proofs.restores_want_their_maker.Goals as goal

pub returns : goal.returns
returns g c = restores_want_their_maker
