use Rattle.fk_runs.proofs.InRecordings.Again.{record_plays_again}
use Rattle.fk_runs.proofs.recordings.laws.a_record_plays_again.Goals as goal

pub returns : goal.returns
returns c = record_plays_again
