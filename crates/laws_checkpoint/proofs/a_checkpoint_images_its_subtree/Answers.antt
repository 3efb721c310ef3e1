use Rattle.laws_checkpoint.proofs.Saved.{checkpoint_images_subtree}
use Rattle.laws_checkpoint.proofs.a_checkpoint_images_its_subtree.Goals as goal

pub returns : goal.returns
returns c = checkpoint_images_subtree
