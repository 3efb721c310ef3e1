use Rattle.examples_jobs.proofs.Wrong.{its_porter, a_mutex, scratch}
use Rattle.examples_jobs.proofs.jobs_that_break_the_contract.Goals as goal

pub returns-clause-porter : goal.returns-clause-porter
returns-clause-porter c = its_porter

pub returns-clause-mutex : goal.returns-clause-mutex
returns-clause-mutex c = a_mutex

pub returns-clause-scratch : goal.returns-clause-scratch
returns-clause-scratch c = scratch
