use Rattle.laws_subtrees.proofs.InCut.joined.Rebinding.{move_rebinds}
use Rattle.laws_subtrees.proofs.cut.rebind_laws.every_move_rebinds.Goals as goal

pub returns : goal.returns
returns c = move_rebinds
