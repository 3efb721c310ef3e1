use Rattle.std.proofs.Common.{sym, ◌∙◌}
use Rattle.fk_waits.proofs.InCauses.Steps.{ready_cause}
use Rattle.fk_waits.proofs.causes.causes.Causes.queue_for.Goals as goal

pub returns-in-None-clause-cause : goal.returns-in-None-clause-cause
returns-in-None-clause-cause c = ready_cause c.args.self.now ∙ sym c.in-None.is

pub returns-in-Some-clause-cause : goal.returns-in-Some-clause-cause
returns-in-Some-clause-cause c = c.queue_named.ensures.cause ∙ sym c.in-Some.is
