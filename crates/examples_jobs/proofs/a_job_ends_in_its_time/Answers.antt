use Rattle.examples_jobs.proofs.Turns.{not_yet_ended, ended_in_time}
use Rattle.examples_jobs.proofs.a_job_ends_in_its_time.Goals as goal

pub returns-clause-early : goal.returns-clause-early
returns-clause-early c = not_yet_ended

pub returns-clause-late : goal.returns-clause-late
returns-clause-late c = ended_in_time
