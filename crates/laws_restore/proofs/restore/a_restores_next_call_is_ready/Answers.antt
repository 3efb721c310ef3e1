use Rattle.laws_restore.proofs.InRestore.Readied.{is_ready}
use Rattle.laws_restore.proofs.restore.a_restores_next_call_is_ready.Goals as goal

pub returns : goal.returns
returns c = is_ready
