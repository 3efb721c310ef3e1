use Rattle.laws_subtrees.proofs.InCut.talks.Messages.{client_over_keeps}
use Rattle.laws_subtrees.proofs.cut.cut_laws.a_turn_of_a_client_keeps_the_cut.Goals as goal

pub returns : goal.returns
returns c = client_over_keeps
