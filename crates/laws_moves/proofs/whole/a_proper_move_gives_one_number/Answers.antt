use Rattle.laws_moves.proofs.InWhole.Laws.{gives_one_number}
use Rattle.laws_moves.proofs.whole.a_proper_move_gives_one_number.Goals as goal

pub returns : goal.returns
returns c = gives_one_number
