use Rattle.laws_subtrees.proofs.InFurther.told.Laws.{touches_tell_nothing}
use Rattle.laws_subtrees.proofs.further.touches_tell_nothing.Goals as goal

pub returns : goal.returns
returns c = touches_tell_nothing
