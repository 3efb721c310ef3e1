use Rattle.laws_jobs.proofs.Dropped.{own_keep_open_place}
use Rattle.laws_jobs.proofs.own_changes_keep_the_open_place.Goals as goal

pub returns : goal.returns
returns c = own_keep_open_place
