use Rattle.laws_runs.proofs.Transparency.{restores_hold}
use Rattle.laws_runs.proofs.a_restore_holds.Goals as goal

pub returns : goal.returns
returns g c = restores_hold
