use Rattle.laws_subtrees.proofs.InCut.cut.Calls.{denied_calls_keep}
use Rattle.laws_subtrees.proofs.cut.cut_laws.a_denied_call_of_a_porter_keeps_the_cut.Goals as goal

pub returns : goal.returns
returns c = denied_calls_keep
