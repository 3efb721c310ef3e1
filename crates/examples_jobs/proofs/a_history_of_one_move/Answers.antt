use Rattle.examples_jobs.proofs.Turns.{one_move}
use Rattle.examples_jobs.proofs.a_history_of_one_move.Goals as goal

pub returns : goal.returns
returns c = one_move
