use Rattle.examples_scenarios.proofs.Worked.{says-defaults, says-no-other, says-none}
use Rattle.examples_scenarios.proofs.a_document_says_its_scenario.Goals as goal

pub returns-clause-says : goal.returns-clause-says
returns-clause-says c = says-defaults

pub returns-clause-no_other : goal.returns-clause-no_other
returns-clause-no_other c = says-no-other

pub returns-clause-none : goal.returns-clause-none
returns-clause-none c = says-none
