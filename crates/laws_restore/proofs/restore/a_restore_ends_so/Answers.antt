use Rattle.laws_restore.proofs.InRestore.Coming.{ends_so}
use Rattle.laws_restore.proofs.restore.a_restore_ends_so.Goals as goal

pub returns : goal.returns
returns c = ends_so
