use Rattle.laws_subtrees.proofs.InCut.cut.Calls.{named_calls_keep}
use Rattle.laws_subtrees.proofs.cut.cut_laws.a_talk_made_by_a_porter_keeps_the_cut.Goals as goal

pub returns : goal.returns
returns c = named_calls_keep
