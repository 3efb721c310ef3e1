use Rattle.laws_house.proofs.Moving.{last_call_is_known}
use Rattle.laws_house.proofs.a_checkpoints_last_call_is_known.Goals as goal

pub returns : goal.returns
returns c = last_call_is_known
