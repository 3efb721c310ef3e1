use Rattle.laws_subtrees.proofs.InCut.cut.Rows.{plain_keeps}
use Rattle.laws_subtrees.proofs.cut.cut_laws.a_plain_stage_keeps_the_cut.Goals as goal

pub returns : goal.returns
returns c = plain_keeps
