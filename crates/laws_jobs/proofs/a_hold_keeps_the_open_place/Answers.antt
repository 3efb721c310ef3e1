use Rattle.laws_jobs.proofs.Held.{hold_keeps_open_place}
use Rattle.laws_jobs.proofs.a_hold_keeps_the_open_place.Goals as goal

pub returns : goal.returns
returns c = hold_keeps_open_place
