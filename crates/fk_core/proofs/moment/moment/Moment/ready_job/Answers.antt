use Rattle.fk_served.specs.Kernels.{world_of as world}
use Rattle.fk_core.proofs.InMoment.Asking.{called_ready, ready_called, ready_due}
use Rattle.fk_core.proofs.moment.moment.Moment.ready_job.Goals as goal

pub returns-then-is_called : goal.returns-then-is_called
returns-then-is_called g c =
    let self = c.args.self.now in
    let called = c.is_called.ensures.0 c.if-is_called.true in (
      λ due. called_ready self.jobs.now (world self.kernel.now) self.services.now.list self.events c.args.m.now c.requires (c.is_due.ensures.0 due) called,
      λ ready. c.is_due.ensures.1 (ready_due self.jobs.now (world self.kernel.now) self.services.now.list self.events c.args.m.now c.requires ready),
    )

pub returns-else-is_called : goal.returns-else-is_called
returns-else-is_called g c =
    let self = c.args.self.now in (
      λ never. absurd (cc),
      λ ready. let yes = c.is_called.ensures.1 (ready_called self.jobs.now (world self.kernel.now) self.services.now.list self.events c.args.m.now c.requires ready) in
          let nay = c.if-is_called.false in absurd (cc),
    )
