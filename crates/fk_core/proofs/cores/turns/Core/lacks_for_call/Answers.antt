use Rattle.std.proofs.Common.{◌∙◌, ap}
use Rattle.fk_jobs.specs.Jobs.{Queue}
use Rattle.fk_core.proofs.InCores.Lacking.{or-left, or-right}
use Rattle.fk_core.proofs.cores.turns.Core.lacks_for_call.Goals as goal

pub returns-in-Ok-clause-lacks : goal.returns-in-Ok-clause-lacks
returns-in-Ok-clause-lacks g c grow = or-right _ _ (or-right _ _ (c.lacks_room_for_call.ensures.grows grow))

pub returns-in-Err-clause-lacks : goal.returns-in-Err-clause-lacks
returns-in-Err-clause-lacks g c yea = or-left _ _ c.in-Err.ensures.grows

pub returns-in-Ok-clause-ready : goal.returns-in-Ok-clause-ready
returns-in-Ok-clause-ready g c nay = ap (λ (q : Queue). q.ready) c.lacks_room_for_call.ensures.queue ∙ c.in-Ok.ensures.ready
