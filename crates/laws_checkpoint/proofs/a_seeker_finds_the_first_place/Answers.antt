use Rattle.laws_checkpoint.proofs.Sought.{foreign_is_exact}
use Rattle.laws_checkpoint.proofs.a_seeker_finds_the_first_place.Goals as goal

pub returns : goal.returns
returns c = foreign_is_exact
