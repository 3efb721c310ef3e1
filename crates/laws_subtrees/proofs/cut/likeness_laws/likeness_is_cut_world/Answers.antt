use Rattle.laws_subtrees.proofs.InCut.likeness.Laws.{likeness_is_cut_world}
use Rattle.laws_subtrees.proofs.cut.likeness_laws.likeness_is_cut_world.Goals as goal

pub returns : goal.returns
returns c = likeness_is_cut_world
