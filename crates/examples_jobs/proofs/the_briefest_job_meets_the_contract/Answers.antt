use Rattle.examples_jobs.proofs.Brief.{brief_meets_contract}
use Rattle.examples_jobs.proofs.the_briefest_job_meets_the_contract.Goals as goal

pub returns : goal.returns
returns c = brief_meets_contract
