use Rattle.laws_subtrees.proofs.InCut.rebinding.Denied.{denied_rebinds}
use Rattle.laws_subtrees.proofs.cut.rebind_laws.a_denied_stage_rebinds.Goals as goal

pub returns : goal.returns
returns c = denied_rebinds
