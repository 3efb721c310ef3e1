use Rattle.laws_two_runs.proofs.Between.{copies_go_on}
use Rattle.laws_two_runs.proofs.copies_go_on.Goals as goal

pub returns : goal.returns
returns g c = copies_go_on
