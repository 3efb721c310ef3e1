use Rattle.laws_restore.proofs.InRestore.Lasting.{last_call_is_known}
use Rattle.laws_restore.proofs.restore.a_restores_last_call_is_known.Goals as goal

pub returns : goal.returns
returns c = last_call_is_known
