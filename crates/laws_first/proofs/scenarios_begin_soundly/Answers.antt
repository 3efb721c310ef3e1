use Rattle.laws_first.proofs.First.{scenarios_begin_soundly}
use Rattle.laws_first.proofs.scenarios_begin_soundly.Goals as goal

pub returns : goal.returns
returns c = scenarios_begin_soundly
