use Rattle.fk_core.specs.Rounds.Kernels.{world_of as world}
use Rattle.fk_core.proofs.InRounds.Asking.{called_ready, ready_called}
use Rattle.fk_core.proofs.InCores.Lacking.{lacks_called}
use Rattle.fk_core.proofs.InCores.Timely.{timely_due}
use Rattle.fk_core.proofs.InCores.Trying.{tried_as}
use Rattle.fk_core.proofs.cores.turns.Core.go_timely_job.Goals as goal

pub returns-clause-tried : goal.returns-clause-tried
returns-clause-tried g c =
    let self = c.args.self.now in
    tried_as c.go_call.result _ _ _ _ _ _
    (called_ready self.jobs (world self.kernel) self.services.list self.events c.args.m.now c.requires.job
    (timely_due self.jobs (world self.kernel) self.services.list self.events c.requires.timely))
    (ready_called self.jobs (world self.kernel) self.services.list self.events c.args.m.now c.requires.job)
    (lacks_called self.jobs (world self.kernel) self.services.list self.events c.args.m.now c.requires.job) c.go_call.ensures.tried
