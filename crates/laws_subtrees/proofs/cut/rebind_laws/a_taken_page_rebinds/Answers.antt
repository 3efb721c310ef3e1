use Rattle.laws_subtrees.proofs.InCut.cut.Pages.{page_take_rebinds}
use Rattle.laws_subtrees.proofs.cut.rebind_laws.a_taken_page_rebinds.Goals as goal

pub returns : goal.returns
returns c = page_take_rebinds
