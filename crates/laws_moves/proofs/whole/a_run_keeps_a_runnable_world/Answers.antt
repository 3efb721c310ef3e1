use Rattle.laws_moves.proofs.InWhole.Laws.{run_keeps_runnable}
use Rattle.laws_moves.proofs.whole.a_run_keeps_a_runnable_world.Goals as goal

pub returns : goal.returns
returns c = run_keeps_runnable
