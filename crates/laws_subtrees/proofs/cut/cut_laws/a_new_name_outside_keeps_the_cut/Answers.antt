use Rattle.laws_subtrees.proofs.InCut.cut.Renames.{rename_outside}
use Rattle.laws_subtrees.proofs.cut.cut_laws.a_new_name_outside_keeps_the_cut.Goals as goal

pub returns : goal.returns
returns c = rename_outside
