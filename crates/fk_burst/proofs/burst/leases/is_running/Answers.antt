use Rattle.std.proofs.Common.{ap, ◌∙◌}
use Rattle.fk_plans.specs.Plans.Effects.{is_running}
use Rattle.fk_burst.proofs.burst.leases.is_running.Goals as goal

pub returns-in-Some : goal.returns-in-Some
returns-in-Some c = c.runs.ensures ∙ ap is_running c.in-Some.ensures.thread

pub returns-in-None : goal.returns-in-None
returns-in-None c = ap is_running c.in-None.ensures.thread
