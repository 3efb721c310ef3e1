use Rattle.laws_subtrees.proofs.InCut.likeness.Laws.{rebinding_is_likeness}
use Rattle.laws_subtrees.proofs.cut.likeness_laws.rebinding_is_likeness.Goals as goal

pub returns : goal.returns
returns c = rebinding_is_likeness
