use Rattle.laws_checkpoint.proofs.Sought.{seeker_is_ready}
use Rattle.laws_checkpoint.proofs.a_seekers_next_call_is_ready.Goals as goal

pub returns : goal.returns
returns c = seeker_is_ready
