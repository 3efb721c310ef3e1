use Rattle.laws_jobs.proofs.Gone.{reference_goes_alone}
use Rattle.laws_jobs.proofs.a_reference_goes_alone.Goals as goal

pub returns : goal.returns
returns c = reference_goes_alone
