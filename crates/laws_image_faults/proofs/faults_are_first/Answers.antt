use Rattle.laws_image_faults.proofs.Laws.{faults_first}
use Rattle.laws_image_faults.proofs.faults_are_first.Goals as goal

pub returns : goal.returns
returns c = faults_first
