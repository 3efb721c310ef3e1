use Rattle.laws_runs.proofs.Transparency.{restored_go_on}
use Rattle.laws_runs.proofs.what_is_restored_goes_on.Goals as goal

pub returns : goal.returns
returns g c = restored_go_on
