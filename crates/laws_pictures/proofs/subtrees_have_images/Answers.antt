use Rattle.laws_pictures.proofs.Once.{subtree_has_image}
use Rattle.laws_pictures.proofs.subtrees_have_images.Goals as goal

pub returns : goal.returns
returns c = subtree_has_image
