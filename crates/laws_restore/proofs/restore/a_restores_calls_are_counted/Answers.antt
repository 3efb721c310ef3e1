use Rattle.laws_restore.proofs.InRestore.Counted.{is_counted}
use Rattle.laws_restore.proofs.restore.a_restores_calls_are_counted.Goals as goal

pub returns : goal.returns
returns c = is_counted
