use Rattle.laws_two_runs.proofs.Between.{copies_tell_the_same}
use Rattle.laws_two_runs.proofs.copies_tell_the_same.Goals as goal

pub returns : goal.returns
returns g c = copies_tell_the_same
