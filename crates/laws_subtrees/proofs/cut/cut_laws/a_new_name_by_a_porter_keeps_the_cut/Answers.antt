use Rattle.laws_subtrees.proofs.InCut.cut.PorterRows.{rename_call}
use Rattle.laws_subtrees.proofs.cut.cut_laws.a_new_name_by_a_porter_keeps_the_cut.Goals as goal

pub returns : goal.returns
returns c = rename_call
