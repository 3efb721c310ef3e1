use Rattle.laws_checkpoint.proofs.Saved.{checkpoint_saves}
use Rattle.laws_checkpoint.proofs.a_checkpoint_saves.Goals as goal

pub returns : goal.returns
returns c = checkpoint_saves
