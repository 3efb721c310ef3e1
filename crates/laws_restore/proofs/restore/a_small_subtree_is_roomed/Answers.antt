use Rattle.laws_restore.proofs.InRestore.Example.{small_is_roomed}
use Rattle.laws_restore.proofs.restore.a_small_subtree_is_roomed.Goals as goal

pub returns : goal.returns
returns c = small_is_roomed
