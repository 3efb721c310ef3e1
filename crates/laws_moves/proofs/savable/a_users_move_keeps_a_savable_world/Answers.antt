use Rattle.laws_moves.proofs.InSavable.Laws.{users_keep_savable}
use Rattle.laws_moves.proofs.savable.a_users_move_keeps_a_savable_world.Goals as goal

pub returns : goal.returns
returns c = users_keep_savable
