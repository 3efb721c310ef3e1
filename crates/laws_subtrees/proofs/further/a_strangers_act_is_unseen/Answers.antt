use Rattle.laws_subtrees.proofs.InFurther.strangers.Laws.{strangers_act_unseen}
use Rattle.laws_subtrees.proofs.further.a_strangers_act_is_unseen.Goals as goal

pub returns : goal.returns
returns c = strangers_act_unseen
