use Rattle.laws_restore.proofs.InRestore.Bounds.{restore_is_bounded}
use Rattle.laws_restore.proofs.restore.a_restore_is_bounded.Goals as goal

pub returns : goal.returns
returns c = restore_is_bounded
