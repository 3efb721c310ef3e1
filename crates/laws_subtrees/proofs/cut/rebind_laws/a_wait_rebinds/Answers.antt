use Rattle.laws_subtrees.proofs.InCut.rebinding.Waits.{wait_rebinds}
use Rattle.laws_subtrees.proofs.cut.rebind_laws.a_wait_rebinds.Goals as goal

pub returns : goal.returns
returns c = wait_rebinds
