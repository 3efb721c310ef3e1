use Rattle.laws_subtrees.proofs.InCut.cut.Pages.{page_take_keeps}
use Rattle.laws_subtrees.proofs.cut.cut_laws.a_taken_page_keeps_the_cut.Goals as goal

pub returns : goal.returns
returns c = page_take_keeps
