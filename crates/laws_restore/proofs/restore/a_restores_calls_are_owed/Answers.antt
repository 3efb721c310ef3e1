use Rattle.laws_restore.proofs.InRestore.Owing.{is_owed}
use Rattle.laws_restore.proofs.restore.a_restores_calls_are_owed.Goals as goal

pub returns : goal.returns
returns c = is_owed
