use Rattle.fk_pager.proofs.Counted.{faults_are_counted}
use Rattle.fk_pager.proofs.faults_are_counted.Goals as goal

pub returns : goal.returns
returns c = faults_are_counted
