use Rattle.laws_runs.proofs.Turning.{jobs_moves}
use Rattle.laws_runs.proofs.a_jobs_move_is_its_call.Goals as goal

pub returns : goal.returns
returns g c = jobs_moves
