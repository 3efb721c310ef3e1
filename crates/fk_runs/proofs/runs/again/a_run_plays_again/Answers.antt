use Rattle.fk_runs.proofs.InRuns.Replayed.{plays-again}
use Rattle.fk_runs.proofs.runs.again.a_run_plays_again.Goals as goal

pub returns : goal.returns
returns c = plays-again
