use Rattle.laws_restore.proofs.InRestore.Resting.{leaves_far}
use Rattle.laws_restore.proofs.restore.a_restore_leaves_the_rest.Goals as goal

pub returns : goal.returns
returns c = leaves_far
