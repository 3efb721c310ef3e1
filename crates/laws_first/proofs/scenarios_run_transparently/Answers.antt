use Rattle.laws_first.proofs.Grounded.{scenarios_run_transparently}
use Rattle.laws_first.proofs.scenarios_run_transparently.Goals as goal

pub returns : goal.returns
returns g c = scenarios_run_transparently
