use Rattle.fk_jobs.proofs.Turns.{job_ends}
use Rattle.fk_jobs.proofs.job_machine.jobs_end_so.Goals as goal

pub returns : goal.returns
returns g c = job_ends _
