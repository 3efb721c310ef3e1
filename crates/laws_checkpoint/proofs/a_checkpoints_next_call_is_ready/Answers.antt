use Rattle.laws_checkpoint.proofs.Calling.{checkpoint_is_ready}
use Rattle.laws_checkpoint.proofs.a_checkpoints_next_call_is_ready.Goals as goal

pub returns : goal.returns
returns c = checkpoint_is_ready
