use Rattle.laws_runs.proofs.Placed.{ends_are_there}
use Rattle.laws_runs.proofs.ended_jobs_were_at_work.Goals as goal

pub returns : goal.returns
returns g c = ends_are_there
