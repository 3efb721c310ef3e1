use Rattle.laws_subtrees.proofs.InCut.waits.Porters.{wait_call_keeps}
use Rattle.laws_subtrees.proofs.cut.cut_laws.a_wait_of_a_porter_keeps_the_cut.Goals as goal

pub returns : goal.returns
returns c = wait_call_keeps
