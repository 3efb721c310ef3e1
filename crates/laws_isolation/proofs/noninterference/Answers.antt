use Rattle.laws_isolation.proofs.Once.{noninterferes}
use Rattle.laws_isolation.proofs.noninterference.Goals as goal

pub returns : goal.returns
returns c = noninterferes
