use Rattle.fk_run.proofs.InTwoCalls.Calls.{saved_goes_on}
use Rattle.fk_run.proofs.two_calls.saved_subtrees_go_on_in_another_call.Goals as goal

pub returns : goal.returns
returns c = saved_goes_on
