use Rattle.laws_checkpoint.proofs.Ended.{checkpoint_ends_as_it_was}
use Rattle.laws_checkpoint.proofs.a_checkpoint_ends_as_it_was.Goals as goal

pub returns : goal.returns
returns c = checkpoint_ends_as_it_was
