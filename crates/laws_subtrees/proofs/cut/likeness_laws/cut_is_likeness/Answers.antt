use Rattle.laws_subtrees.proofs.InCut.likeness.Laws.{cut_is_likeness, cut_is_served_alike}
use Rattle.laws_subtrees.proofs.cut.likeness_laws.cut_is_likeness.Goals as goal

pub returns : goal.returns
returns c = record { like = cut_is_likeness; served = cut_is_served_alike }
