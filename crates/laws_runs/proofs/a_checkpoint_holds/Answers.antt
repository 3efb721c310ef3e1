use Rattle.laws_runs.proofs.Transparency.{checkpoints_hold}
use Rattle.laws_runs.proofs.a_checkpoint_holds.Goals as goal

pub returns : goal.returns
returns g c = checkpoints_hold
