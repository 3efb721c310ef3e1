use Rattle.laws_moves.proofs.InFrozen.Holding.{others_keep_hold}
use Rattle.laws_moves.proofs.frozen.others_keep_a_porters_hold.Goals as goal

pub returns : goal.returns
returns c = others_keep_hold
