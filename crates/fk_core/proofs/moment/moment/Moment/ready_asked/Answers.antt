use Rattle.std.proofs.Common.{◌↔◌, IsTrue, subst}
use Rattle.fk_served.specs.Kernels.{world_of as world}
use Rattle.fk_core.proofs.InMoment.Asking.{as_asked}
use Rattle.fk_core.proofs.moment.moment.Moment.ready_asked.Goals as goal

pub returns : goal.returns
returns g c =
    let self = c.args.self.now in
    subst (λ T. IsTrue c.is_ready.result ↔ T)
    (as_asked self.jobs.now (world self.kernel.now) self.services.now.list self.events c.args.m.now c.is_ready.ensures.words)
    c.is_ready.ensures.ready
