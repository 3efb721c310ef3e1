use Rattle.fk_waits.proofs.InWaits.Listed.{kept_none, none_lists}
use Rattle.fk_waits.proofs.waits.waits.Waits.new.Goals as goal

pub invariant_of-result : goal.invariant_of-result
invariant_of-result c = record { kept = kept_none c.in_ok-threads.threads c.in_ok-threads.ensures.there; last_is = tt }

pub returns : goal.returns
returns c = none_lists c.in_ok-threads.threads c.in_ok-threads.ensures.there c.in_ok-threads.ensures.seats
