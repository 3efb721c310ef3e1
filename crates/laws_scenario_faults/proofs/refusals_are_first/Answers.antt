use Rattle.laws_scenario_faults.proofs.Documents.{refusals_first}
use Rattle.laws_scenario_faults.proofs.refusals_are_first.Goals as goal

pub returns : goal.returns
returns c = refusals_first
