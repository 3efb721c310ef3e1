use Rattle.laws_runs.proofs.Turning.{moves_in_history}
use Rattle.laws_runs.proofs.a_historys_moves_are_calls.Goals as goal

pub returns : goal.returns
returns g c = moves_in_history
