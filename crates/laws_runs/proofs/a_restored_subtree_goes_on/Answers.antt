use Rattle.laws_runs.proofs.Onwards.{restored_goes_on}
use Rattle.laws_runs.proofs.a_restored_subtree_goes_on.Goals as goal

pub returns : goal.returns
returns c = restored_goes_on
