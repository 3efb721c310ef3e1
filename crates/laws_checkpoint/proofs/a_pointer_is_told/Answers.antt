use Rattle.laws_checkpoint.proofs.Tells.{pointer_is_told}
use Rattle.laws_checkpoint.proofs.a_pointer_is_told.Goals as goal

pub returns : goal.returns
returns c = pointer_is_told
