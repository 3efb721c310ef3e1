use Rattle.laws_turns.proofs.Running.{bursts_run_lem}
use Rattle.laws_turns.proofs.bursts_run.Goals as goal

pub returns : goal.returns
returns c = bursts_run_lem
