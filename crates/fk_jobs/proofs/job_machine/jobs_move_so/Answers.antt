use Rattle.fk_jobs.proofs.Turns.{job_moves}
use Rattle.fk_jobs.proofs.job_machine.jobs_move_so.Goals as goal

pub returns : goal.returns
returns g c = job_moves _
