use Rattle.laws_subtrees.proofs.InCut.cut.Calls.{plain_calls_keep}
use Rattle.laws_subtrees.proofs.cut.cut_laws.a_plain_call_of_a_porter_keeps_the_cut.Goals as goal

pub returns : goal.returns
returns c = plain_calls_keep
