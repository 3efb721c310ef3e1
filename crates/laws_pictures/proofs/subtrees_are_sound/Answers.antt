use Rattle.laws_pictures.proofs.Saved.{subtree_is_sound}
use Rattle.laws_pictures.proofs.subtrees_are_sound.Goals as goal

pub returns : goal.returns
returns c = subtree_is_sound
