use Rattle.laws_runs.proofs.Seen.{run_goes_on}
use Rattle.laws_runs.proofs.a_run_goes_on.Goals as goal

pub returns : goal.returns
returns g c = run_goes_on
