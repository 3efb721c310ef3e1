use Rattle.laws_runs.proofs.Composing.{composed}
use Rattle.laws_runs.proofs.a_run_is_composed.Goals as goal

pub returns : goal.returns
returns g c = composed
