use Rattle.laws_subtrees.proofs.InCut.talks.Ends.{disconnect_rebinds}
use Rattle.laws_subtrees.proofs.cut.rebind_laws.an_end_by_a_client_rebinds.Goals as goal

pub returns : goal.returns
returns c = disconnect_rebinds
