use Rattle.laws_subtrees.proofs.InCut.cut.Calls.{serverless_calls_keep}
use Rattle.laws_subtrees.proofs.cut.cut_laws.an_own_call_of_a_porter_keeps_the_cut.Goals as goal

pub returns : goal.returns
returns c = serverless_calls_keep
