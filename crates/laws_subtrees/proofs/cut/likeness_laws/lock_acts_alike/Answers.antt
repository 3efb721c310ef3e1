use Rattle.laws_subtrees.proofs.InCut.likeness.Laws.{lock_acts_alike}
use Rattle.laws_subtrees.proofs.cut.likeness_laws.lock_acts_alike.Goals as goal

pub returns : goal.returns
returns c = lock_acts_alike
