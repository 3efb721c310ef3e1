use Rattle.laws_moves.proofs.InWhole.Laws.{keeps_runnable}
use Rattle.laws_moves.proofs.whole.a_proper_move_keeps_a_runnable_world.Goals as goal

pub returns : goal.returns
returns c = keeps_runnable
