use Rattle.laws_restore.proofs.InRestore.Looked.{no_port_is_exact}
use Rattle.laws_restore.proofs.restore.a_missing_port_is_told_exactly.Goals as goal

pub returns : goal.returns
returns c = no_port_is_exact
