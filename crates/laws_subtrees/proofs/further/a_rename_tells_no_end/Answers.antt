use Rattle.laws_subtrees.proofs.InFurther.told.Laws.{renames_tell_no_ends}
use Rattle.laws_subtrees.proofs.further.a_rename_tells_no_end.Goals as goal

pub returns : goal.returns
returns c = renames_tell_no_ends
