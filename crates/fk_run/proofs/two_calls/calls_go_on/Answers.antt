use Rattle.fk_run.proofs.InTwoCalls.Calls.{calls_go_on}
use Rattle.fk_run.proofs.two_calls.calls_go_on.Goals as goal

pub returns : goal.returns
returns g c = calls_go_on
