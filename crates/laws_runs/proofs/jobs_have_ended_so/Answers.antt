use Rattle.laws_runs.proofs.Ended.{ends_are_so}
use Rattle.laws_runs.proofs.jobs_have_ended_so.Goals as goal

pub returns : goal.returns
returns g c = ends_are_so
