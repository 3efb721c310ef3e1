use Rattle.laws_isolation.proofs.Once.{further_once}
use Rattle.laws_isolation.proofs.a_further_run_is_one.Goals as goal

pub returns : goal.returns
returns c = further_once
