use Rattle.laws_subtrees.proofs.InFurther.Runs.{further_stays}
use Rattle.laws_subtrees.proofs.further.further_runs_show_themselves.Goals as goal

pub returns : goal.returns
returns c = further_stays
