use Rattle.laws_subtrees.proofs.InCut.likeness.Laws.{likeness_stays}
use Rattle.laws_subtrees.proofs.cut.likeness_laws.likeness_stays.Goals as goal

pub returns : goal.returns
returns c = likeness_stays
