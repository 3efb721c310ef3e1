use Rattle.laws_checkpoint.proofs.Bounds.{checkpoint_is_bounded}
use Rattle.laws_checkpoint.proofs.a_checkpoint_is_bounded.Goals as goal

pub returns : goal.returns
returns c = checkpoint_is_bounded
