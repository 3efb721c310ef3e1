use Rattle.laws_moves.proofs.InSavable.Laws.{run_keeps_savable}
use Rattle.laws_moves.proofs.savable.a_run_keeps_a_savable_world.Goals as goal

pub returns : goal.returns
returns c = run_keeps_savable
