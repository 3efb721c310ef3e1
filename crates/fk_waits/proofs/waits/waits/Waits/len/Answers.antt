use Rattle.std.proofs.Common.{length, ap, ◌∙◌}
use Rattle.fk_waits.specs.Waits.Lists.{Lists}
use Rattle.fk_waits.proofs.waits.waits.Waits.len.Goals as goal

pub returns : goal.returns
returns c = c.self.invariant.kept.count ∙ ap (λ (lists : Lists). length lists.queued) c.self.view_is
