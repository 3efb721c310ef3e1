use Rattle.laws_subtrees.proofs.InCut.rebinding.Touches.{touch_rebinds}
use Rattle.laws_subtrees.proofs.cut.rebind_laws.what_the_outside_does_rebinds.Goals as goal

pub returns : goal.returns
returns c = touch_rebinds
