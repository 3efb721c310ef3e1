use Rattle.std.proofs.Common.{refl}
use Rattle.fk_core.specs.Rounds.Kernels.{world_of as world}
use Rattle.fk_core.proofs.InRounds.Asking.{called_ready, ready_called, ready_due}
use Rattle.fk_core.proofs.InCores.Lacking.{lacks_called}
use Rattle.fk_core.proofs.InCores.Trying.{tried_as}
use Rattle.fk_core.proofs.cores.turns.Core.go_job.Goals as goal

pub returns-then-is_due-clause-tried : goal.returns-then-is_due-clause-tried
returns-then-is_due-clause-tried g c =
    let self = c.args.self.now in
    tried_as c.go_call.result _ _ _ _ _ _
    (called_ready self.jobs (world self.kernel) self.services.list self.events c.args.m.now c.requires.job (c.is_due.ensures.0 c.if-is_due.true))
    (ready_called self.jobs (world self.kernel) self.services.list self.events c.args.m.now c.requires.job)
    (lacks_called self.jobs (world self.kernel) self.services.list self.events c.args.m.now c.requires.job) c.go_call.ensures.tried

pub returns-else-is_due-clause-tried : goal.returns-else-is_due-clause-tried
returns-else-is_due-clause-tried g c =
    let self = c.args.self.now in (
      λ ready.
          let yes = c.is_due.ensures.1 (ready_due self.jobs (world self.kernel) self.services.list self.events c.args.m.now c.requires.job ready) in
          let nay = c.if-is_due.false in
          absurd (cc),
      refl,
    )
