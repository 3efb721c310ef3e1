use Rattle.laws_subtrees.proofs.InCut.rebinding.Messages.{server_over_rebinds}
use Rattle.laws_subtrees.proofs.cut.rebind_laws.a_turn_of_a_server_rebinds.Goals as goal

pub returns : goal.returns
returns c = server_over_rebinds
