use Rattle.laws_scenario_faults.proofs.Documents.{breaks_told}
use Rattle.laws_scenario_faults.proofs.breaks_are_told.Goals as goal

pub returns : goal.returns
returns c = breaks_told
