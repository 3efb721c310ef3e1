use Rattle.laws_checkpoint.proofs.Calling.{checkpoint_leaves_rest}
use Rattle.laws_checkpoint.proofs.a_checkpoint_leaves_the_rest.Goals as goal

pub returns : goal.returns
returns c = checkpoint_leaves_rest
