use Rattle.laws_subtrees.proofs.InCut.cut.Deaths.{destroy_inside}
use Rattle.laws_subtrees.proofs.cut.cut_laws.a_death_inside_keeps_the_cut.Goals as goal

pub returns : goal.returns
returns c = destroy_inside
