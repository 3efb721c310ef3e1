use Rattle.std.proofs.Common.{◌∙◌, sym}
use Rattle.fk_served.specs.Kernels.{world_of as world}
use Rattle.fk_core.proofs.InMoment.Asking.{asked_ready, ready_asked}
use Rattle.fk_core.proofs.moment.moment.Moment.ready.Goals as goal

pub returns-else-is_porter : goal.returns-else-is_porter
returns-else-is_porter g c =
    let self = c.args.self.now in
    let other = sym c.is_porter.ensures ∙ c.if-is_porter.false in (
      λ is. asked_ready self.jobs.now (world self.kernel.now) self.services.now.list self.events c.args.m.now other (c.ready_asked.ensures.0 is),
      λ ready. c.ready_asked.ensures.1 (ready_asked self.jobs.now (world self.kernel.now) self.services.now.list self.events c.args.m.now other ready),
    )
