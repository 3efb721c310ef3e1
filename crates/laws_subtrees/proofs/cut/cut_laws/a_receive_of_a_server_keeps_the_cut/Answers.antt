use Rattle.laws_subtrees.proofs.InCut.talks.Receives.{server_receive_keeps}
use Rattle.laws_subtrees.proofs.cut.cut_laws.a_receive_of_a_server_keeps_the_cut.Goals as goal

pub returns : goal.returns
returns c = server_receive_keeps
