use Rattle.fk_served.specs.Kernels.{world_of as world}
use Rattle.fk_served.specs.Events.{IsReadyBesides}
use Rattle.fk_core.specs.Moment.Moments.{seen, IsOthersMove, IsReadyNow}
use Rattle.fk_served.proofs.Idle.{if-none}
use Rattle.fk_core.proofs.InMoment.Acting.{runs-other, if-some}
use Rattle.fk_core.proofs.InMoment.Asking.{others_ready}
use Rattle.fk_core.proofs.moment.moment.Moment.user.Goals as goal

pub returns-clause-other : goal.returns-clause-other
returns-clause-other g c =
    let self = c.args.self.now in
    if-some c.any_besides.result (λ m. IsReadyBesides (world self.kernel.now) c.porter.result m) (λ m. IsOthersMove self.jobs.now.jobs (seen self) m)
    (λ m ready. runs-other self.jobs.now (world self.kernel.now) self.services.now.list self.events m (rw c.porter.ensures at ready.0) ready.1)
    c.any_besides.ensures.ready

pub returns-clause-ready : goal.returns-clause-ready
returns-clause-ready g c =
    let self = c.args.self.now in
    if-some c.any_besides.result (λ m. IsReadyBesides (world self.kernel.now) c.porter.result m) (λ m. IsReadyNow self m)
    (λ m ready. others_ready self.jobs.now (world self.kernel.now) self.services.now.list self.events m
    (runs-other self.jobs.now (world self.kernel.now) self.services.now.list self.events m (rw c.porter.ensures at ready.0) ready.1))
    c.any_besides.ensures.ready

pub returns-clause-none : goal.returns-clause-none
returns-clause-none g c =
    if-none c.any_besides.result _ _ (λ none m other ready. none m (rw c.porter.ensures other, ready)) c.any_besides.ensures.none
