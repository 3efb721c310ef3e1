use Rattle.laws_filled_bounds.proofs.Raised.{moves_raise_once_lem}
use Rattle.laws_filled_bounds.proofs.moves_raise_once.Goals as goal

pub returns : goal.returns
returns c = moves_raise_once_lem
