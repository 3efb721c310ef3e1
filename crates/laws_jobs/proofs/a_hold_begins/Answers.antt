use Rattle.laws_jobs.proofs.Holds.{hold_comes_to}
use Rattle.laws_jobs.proofs.a_hold_begins.Goals as goal

pub returns : goal.returns
returns c = hold_comes_to
