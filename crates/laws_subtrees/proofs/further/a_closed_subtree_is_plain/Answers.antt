use Rattle.laws_subtrees.proofs.InFurther.ClosedLaws.{closed_is_plain}
use Rattle.laws_subtrees.proofs.further.a_closed_subtree_is_plain.Goals as goal

pub returns : goal.returns
returns c = closed_is_plain
