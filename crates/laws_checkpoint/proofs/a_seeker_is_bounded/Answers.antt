use Rattle.laws_checkpoint.proofs.SeekBounds.{foreign_is_bounded}
use Rattle.laws_checkpoint.proofs.a_seeker_is_bounded.Goals as goal

pub returns : goal.returns
returns c = foreign_is_bounded
