use Rattle.laws_jobs.proofs.Ready.{unheld_call_ready}
use Rattle.laws_jobs.proofs.an_unheld_call_is_ready.Goals as goal

pub returns : goal.returns
returns c = unheld_call_ready
