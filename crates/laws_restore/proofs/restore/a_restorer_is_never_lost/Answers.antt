use Rattle.laws_restore.proofs.InRestore.Scripted.{no_lost}
use Rattle.laws_restore.proofs.restore.a_restorer_is_never_lost.Goals as goal

pub returns : goal.returns
returns c = no_lost
