use Rattle.laws_jobs.proofs.LeadLaws.{others_keep_open_place}
use Rattle.laws_jobs.proofs.others_keep_the_open_place.Goals as goal

pub returns : goal.returns
returns c = others_keep_open_place
