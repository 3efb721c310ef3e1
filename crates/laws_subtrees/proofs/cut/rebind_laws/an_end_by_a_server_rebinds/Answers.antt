use Rattle.laws_subtrees.proofs.InCut.talks.Ends.{end_rebinds}
use Rattle.laws_subtrees.proofs.cut.rebind_laws.an_end_by_a_server_rebinds.Goals as goal

pub returns : goal.returns
returns c = end_rebinds
