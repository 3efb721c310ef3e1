use Rattle.laws_bursts.proofs.Moves.{bursts_are_moves_lem}
use Rattle.laws_bursts.proofs.bursts_are_moves.Goals as goal

pub returns : goal.returns
returns c = bursts_are_moves_lem
