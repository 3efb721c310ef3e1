use Rattle.laws_moves.proofs.InWhole.Younger.{keeps_younger}
use Rattle.laws_moves.proofs.whole.a_fit_move_keeps_spaces_younger.Goals as goal

pub returns : goal.returns
returns c = keeps_younger
