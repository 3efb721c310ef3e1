use Rattle.laws_restore.proofs.InRestore.Coming.{restores}
use Rattle.laws_restore.proofs.restore.a_restore_restores.Goals as goal

pub returns : goal.returns
returns c = restores
