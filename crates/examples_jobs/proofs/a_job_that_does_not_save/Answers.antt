use Rattle.examples_jobs.proofs.Wrong.{saves_not}
use Rattle.examples_jobs.proofs.a_job_that_does_not_save.Goals as goal

pub returns : goal.returns
returns c = saves_not
