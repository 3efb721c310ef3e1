use Rattle.laws_moves.proofs.InWhole.Laws.{savable_runnable}
use Rattle.laws_moves.proofs.whole.what_can_be_saved_is_runnable.Goals as goal

pub returns : goal.returns
returns c = savable_runnable
