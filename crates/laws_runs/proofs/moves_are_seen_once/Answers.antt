use Rattle.laws_runs.proofs.Seen.{seen_once}
use Rattle.laws_runs.proofs.moves_are_seen_once.Goals as goal

pub returns : goal.returns
returns c = seen_once
