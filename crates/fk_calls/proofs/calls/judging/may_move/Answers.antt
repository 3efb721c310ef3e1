use Rattle.fk_calls.proofs.InCalls.Judged.{held_unready}
use Rattle.fk_calls.proofs.calls.judging.may_move.Goals as goal

pub returns-in-None : goal.returns-in-None
returns-in-None c none pick ready = held_unready _ _ _ pick c.in-None.ensures.held ready
