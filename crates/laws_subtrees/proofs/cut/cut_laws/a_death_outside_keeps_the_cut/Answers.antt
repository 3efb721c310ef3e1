use Rattle.laws_subtrees.proofs.InCut.cut.Objects.{destroy_outside}
use Rattle.laws_subtrees.proofs.cut.cut_laws.a_death_outside_keeps_the_cut.Goals as goal

pub returns : goal.returns
returns c = destroy_outside
