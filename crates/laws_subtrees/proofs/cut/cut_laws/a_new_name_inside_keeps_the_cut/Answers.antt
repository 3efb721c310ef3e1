use Rattle.laws_subtrees.proofs.InCut.cut.Objects.{rename_inside}
use Rattle.laws_subtrees.proofs.cut.cut_laws.a_new_name_inside_keeps_the_cut.Goals as goal

pub returns : goal.returns
returns c = rename_inside
