use Rattle.fk_jobs.proofs.Fitting.{calls_fit_anywhere}
use Rattle.fk_jobs.proofs.job_machine.checkpoint_calls_fit_anywhere.Goals as goal

pub returns : goal.returns
returns c = calls_fit_anywhere
