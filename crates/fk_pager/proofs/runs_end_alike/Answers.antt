use Rattle.fk_pager.proofs.Alike.{runs_end_alike}
use Rattle.fk_pager.proofs.runs_end_alike.Goals as goal

pub returns : goal.returns
returns c = runs_end_alike
