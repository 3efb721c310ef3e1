use Rattle.laws_house.proofs.Fitting.{jobs_ask_fitly}
use Rattle.laws_house.proofs.jobs_ask_fitly.Goals as goal

pub returns : goal.returns
returns g c = jobs_ask_fitly
