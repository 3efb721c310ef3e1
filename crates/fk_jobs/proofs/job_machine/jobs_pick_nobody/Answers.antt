use Rattle.fk_jobs.proofs.Fitting.{pick_nobody}
use Rattle.fk_jobs.proofs.job_machine.jobs_pick_nobody.Goals as goal

pub returns : goal.returns
returns c = pick_nobody
