use Rattle.laws_subtrees.proofs.InCut.cut.Calls.{denied_stages_keep}
use Rattle.laws_subtrees.proofs.cut.cut_laws.a_denied_stage_keeps_the_cut.Goals as goal

pub returns : goal.returns
returns c = denied_stages_keep
