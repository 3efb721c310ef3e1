use Rattle.laws_subtrees.proofs.InCut.rebinding.Messages.{client_send_rebinds}
use Rattle.laws_subtrees.proofs.cut.rebind_laws.words_of_a_client_rebind.Goals as goal

pub returns : goal.returns
returns c = client_send_rebinds
