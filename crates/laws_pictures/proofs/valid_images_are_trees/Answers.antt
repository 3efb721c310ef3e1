use Rattle.laws_pictures.proofs.Trees.{valid_is_tree}
use Rattle.laws_pictures.proofs.valid_images_are_trees.Goals as goal

pub returns : goal.returns
returns c = valid_is_tree
