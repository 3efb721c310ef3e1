use Rattle.laws_subtrees.proofs.InCut.talks.Receives.{server_receive_rebinds}
use Rattle.laws_subtrees.proofs.cut.rebind_laws.a_receive_of_a_server_rebinds.Goals as goal

pub returns : goal.returns
returns c = server_receive_rebinds
