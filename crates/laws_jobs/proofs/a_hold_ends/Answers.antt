use Rattle.laws_jobs.proofs.Holds.{release_comes_to}
use Rattle.laws_jobs.proofs.a_hold_ends.Goals as goal

pub returns : goal.returns
returns c = release_comes_to
