use Rattle.laws_turns.proofs.Quiets.{bursts_are_quiet_lem}
use Rattle.laws_turns.proofs.bursts_are_quiet.Goals as goal

pub returns : goal.returns
returns g c = bursts_are_quiet_lem
