use Rattle.laws_turns.proofs.Settling.{quiet_moves_are_turns_lem}
use Rattle.laws_turns.proofs.quiet_moves_are_turns.Goals as goal

pub returns : goal.returns
returns g c = quiet_moves_are_turns_lem
