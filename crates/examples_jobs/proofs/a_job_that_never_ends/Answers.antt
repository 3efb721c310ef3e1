use Rattle.examples_jobs.proofs.Endless.{never_few}
use Rattle.examples_jobs.proofs.a_job_that_never_ends.Goals as goal

pub returns : goal.returns
returns c = never_few
