use Rattle.laws_jobs.proofs.LeadLaws.{others_keep_unled}
use Rattle.laws_jobs.proofs.others_lead_nothing_in.Goals as goal

pub returns : goal.returns
returns c = others_keep_unled
