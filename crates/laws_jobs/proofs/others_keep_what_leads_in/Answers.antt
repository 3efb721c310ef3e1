use Rattle.laws_jobs.proofs.LeadLaws.{others_keep_leads}
use Rattle.laws_jobs.proofs.others_keep_what_leads_in.Goals as goal

pub returns : goal.returns
returns c = others_keep_leads
