use Rattle.laws_subtrees.proofs.InFurther.told.Laws.{faults_are_told}
use Rattle.laws_subtrees.proofs.further.faults_are_told.Goals as goal

pub returns : goal.returns
returns c = faults_are_told
