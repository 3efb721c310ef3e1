use Rattle.laws_checkpoint.proofs.Sought.{seeking_keeps_open_place}
use Rattle.laws_checkpoint.proofs.seeking_keeps_the_open_place.Goals as goal

pub returns : goal.returns
returns c = seeking_keeps_open_place
