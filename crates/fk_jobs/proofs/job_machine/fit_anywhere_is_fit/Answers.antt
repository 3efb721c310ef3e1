use Rattle.fk_jobs.proofs.Fitting.{fits_anywhere}
use Rattle.fk_jobs.proofs.job_machine.fit_anywhere_is_fit.Goals as goal

pub returns : goal.returns
returns c = fits_anywhere
