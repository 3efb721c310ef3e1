use Rattle.laws_subtrees.proofs.InFurther.strangers.Laws.{strangers_move_unseen}
use Rattle.laws_subtrees.proofs.further.a_strangers_move_is_unseen.Goals as goal

pub returns : goal.returns
returns c = strangers_move_unseen
