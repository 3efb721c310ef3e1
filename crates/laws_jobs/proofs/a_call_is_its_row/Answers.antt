use Rattle.laws_jobs.proofs.Goings.{call_is_its_row}
use Rattle.laws_jobs.proofs.a_call_is_its_row.Goals as goal

pub returns : goal.returns
returns c = call_is_its_row
