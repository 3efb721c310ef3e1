use Rattle.fk_pager.proofs.Left.{runs_leave_none}
use Rattle.fk_pager.proofs.runs_leave_none.Goals as goal

pub returns : goal.returns
returns c = runs_leave_none
