use Rattle.laws_isolation.proofs.Undisturbed.{left_to_itself}
use Rattle.laws_isolation.proofs.integrity_of_a_subtrees_own_run.Goals as goal

pub returns : goal.returns
returns c = left_to_itself
