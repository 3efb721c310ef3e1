use Rattle.fk_runs.proofs.InRecordings.Again.{replays_play_again}
use Rattle.fk_runs.proofs.recordings.laws.replays_play_again.Goals as goal

pub returns : goal.returns
returns c = replays_play_again
