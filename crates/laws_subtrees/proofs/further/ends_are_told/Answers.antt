use Rattle.laws_subtrees.proofs.InFurther.told.Laws.{ends_are_told}
use Rattle.laws_subtrees.proofs.further.ends_are_told.Goals as goal

pub returns : goal.returns
returns c = ends_are_told
