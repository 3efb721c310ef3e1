use Rattle.laws_restore.proofs.InRestore.Bounds.{script_is_bounded}
use Rattle.laws_restore.proofs.restore.a_script_is_bounded.Goals as goal

pub returns : goal.returns
returns c = script_is_bounded
