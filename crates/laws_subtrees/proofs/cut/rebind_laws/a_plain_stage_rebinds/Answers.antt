use Rattle.laws_subtrees.proofs.InCut.cut.Rows.{plain_rebinds}
use Rattle.laws_subtrees.proofs.cut.rebind_laws.a_plain_stage_rebinds.Goals as goal

pub returns : goal.returns
returns c = plain_rebinds
