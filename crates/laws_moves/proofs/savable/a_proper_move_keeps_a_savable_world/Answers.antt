use Rattle.laws_moves.proofs.InSavable.Laws.{keeps_savable}
use Rattle.laws_moves.proofs.savable.a_proper_move_keeps_a_savable_world.Goals as goal

pub returns : goal.returns
returns c = keeps_savable
