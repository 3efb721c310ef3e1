use Rattle.laws_runs.proofs.Events.{history_is_events}
use Rattle.laws_runs.proofs.a_history_is_its_events.Goals as goal

pub returns : goal.returns
returns g c = history_is_events
