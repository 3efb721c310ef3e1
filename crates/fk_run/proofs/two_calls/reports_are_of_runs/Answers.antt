use Rattle.fk_run.proofs.InTwoCalls.Reported.{reports_are_of_runs}
use Rattle.fk_run.proofs.two_calls.reports_are_of_runs.Goals as goal

pub returns : goal.returns
returns c = reports_are_of_runs
