use Rattle.laws_subtrees.proofs.InCut.cut.PorterTakes.{page_take_call}
use Rattle.laws_subtrees.proofs.cut.cut_laws.a_page_taken_by_a_porter_keeps_the_cut.Goals as goal

pub returns : goal.returns
returns c = page_take_call
