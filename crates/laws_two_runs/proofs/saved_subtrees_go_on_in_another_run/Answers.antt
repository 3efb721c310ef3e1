use Rattle.laws_two_runs.proofs.Between.{saved_go_on}
use Rattle.laws_two_runs.proofs.saved_subtrees_go_on_in_another_run.Goals as goal

pub returns : goal.returns
returns g c = saved_go_on
