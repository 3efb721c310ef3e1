use Rattle.laws_moves.proofs.InRows.Moves.{moves-listed}
use Rattle.laws_moves.proofs.rows.moves_are_listed.Goals as goal

pub returns : goal.returns
returns c = moves-listed
