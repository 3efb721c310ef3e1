use Rattle.laws_jobs.proofs.LeadLaws.{counts_tell}
use Rattle.laws_jobs.proofs.a_count_tells.Goals as goal

pub returns : goal.returns
returns c = counts_tell
