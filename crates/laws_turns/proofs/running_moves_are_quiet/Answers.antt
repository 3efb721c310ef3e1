use Rattle.laws_turns.proofs.Running.{running_moves_are_quiet_lem}
use Rattle.laws_turns.proofs.running_moves_are_quiet.Goals as goal

pub returns : goal.returns
returns g c = running_moves_are_quiet_lem
