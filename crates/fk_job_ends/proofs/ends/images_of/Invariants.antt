use Rattle.std.proofs.Common.{◌≡◌, ◌++◌, drop, map}
use Rattle.fk_job_ends.specs.Ends as definitions
use Rattle.fk_job_ends.proofs.ends.images_of.Given as goal

abbrev pub invariant-loop-job : goal.invariant-loop-job
invariant-loop-job l = l.images ++ map definitions.image_of (drop l.job-index l.jobs) ≡ map definitions.image_of l.jobs
