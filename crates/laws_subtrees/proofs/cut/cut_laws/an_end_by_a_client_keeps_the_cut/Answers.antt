use Rattle.laws_subtrees.proofs.InCut.talks.Ends.{disconnect_keeps}
use Rattle.laws_subtrees.proofs.cut.cut_laws.an_end_by_a_client_keeps_the_cut.Goals as goal

pub returns : goal.returns
returns c = disconnect_keeps
