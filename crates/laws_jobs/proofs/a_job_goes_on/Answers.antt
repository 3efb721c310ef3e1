use Rattle.laws_jobs.proofs.Weaving.{now_sound, work_waits, work_goes_on}
use Rattle.laws_jobs.proofs.a_job_goes_on.Goals as goal

pub returns-clause-others : goal.returns-clause-others
returns-clause-others g c = work_waits

pub returns-clause-own : goal.returns-clause-own
returns-clause-own g c = work_goes_on

pub returns-clause-sound : goal.returns-clause-sound
returns-clause-sound g c = now_sound
