use Rattle.laws_subtrees.proofs.InFurther.Runs.{proper_run_keeps}
use Rattle.laws_subtrees.proofs.further.a_run_from_its_start_keeps_the_cut.Goals as goal

pub returns : goal.returns
returns c = proper_run_keeps
