use Rattle.laws_checkpoint.proofs.Ended.{checkpoint_keeps_cut}
use Rattle.laws_checkpoint.proofs.a_checkpoint_keeps_the_cut.Goals as goal

pub returns : goal.returns
returns c = checkpoint_keeps_cut
