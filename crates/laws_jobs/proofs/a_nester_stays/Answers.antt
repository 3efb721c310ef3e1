use Rattle.laws_jobs.proofs.Nesters.{nester_stays}
use Rattle.laws_jobs.proofs.a_nester_stays.Goals as goal

pub returns : goal.returns
returns c = nester_stays
