use Rattle.laws_subtrees.proofs.InCut.rebinding.Messages.{client_over_rebinds}
use Rattle.laws_subtrees.proofs.cut.rebind_laws.a_turn_of_a_client_rebinds.Goals as goal

pub returns : goal.returns
returns c = client_over_rebinds
