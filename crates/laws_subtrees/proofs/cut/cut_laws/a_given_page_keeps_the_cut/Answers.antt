use Rattle.laws_subtrees.proofs.InCut.cut.GivenPages.{page_give_user}
use Rattle.laws_subtrees.proofs.cut.cut_laws.a_given_page_keeps_the_cut.Goals as goal

pub returns : goal.returns
returns c = page_give_user
