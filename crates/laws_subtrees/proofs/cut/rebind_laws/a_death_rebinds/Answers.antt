use Rattle.laws_subtrees.proofs.InCut.cut.Deaths.{destroy_rebinds}
use Rattle.laws_subtrees.proofs.cut.rebind_laws.a_death_rebinds.Goals as goal

pub returns : goal.returns
returns c = destroy_rebinds
