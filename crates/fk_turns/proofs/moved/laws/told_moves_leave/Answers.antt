use Rattle.fk_turns.proofs.InMoved.Told.{told_moves_leave}
use Rattle.fk_turns.proofs.moved.laws.told_moves_leave.Goals as goal

pub returns : goal.returns
returns c = told_moves_leave
