use Rattle.laws_subtrees.proofs.InCut.rebinding.Messages.{server_send_rebinds}
use Rattle.laws_subtrees.proofs.cut.rebind_laws.words_of_a_server_rebind.Goals as goal

pub returns : goal.returns
returns c = server_send_rebinds
