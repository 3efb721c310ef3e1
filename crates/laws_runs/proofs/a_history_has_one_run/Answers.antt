use Rattle.laws_runs.proofs.Same.{one_run}
use Rattle.laws_runs.proofs.a_history_has_one_run.Goals as goal

pub returns : goal.returns
returns g c = one_run
