use Rattle.laws_jobs.proofs.Filling.{users_fill_low}
use Rattle.laws_jobs.proofs.users_fill_no_high_slot.Goals as goal

pub returns : goal.returns
returns c = users_fill_low
