use Rattle.laws_scenario_faults.proofs.Scenarios.{scenarios_said}
use Rattle.laws_scenario_faults.proofs.scenarios_are_said.Goals as goal

pub returns : goal.returns
returns c = scenarios_said
