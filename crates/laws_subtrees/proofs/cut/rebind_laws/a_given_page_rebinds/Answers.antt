use Rattle.laws_subtrees.proofs.InCut.cut.Gifts.{page_give_rebinds}
use Rattle.laws_subtrees.proofs.cut.rebind_laws.a_given_page_rebinds.Goals as goal

pub returns : goal.returns
returns c = page_give_rebinds
