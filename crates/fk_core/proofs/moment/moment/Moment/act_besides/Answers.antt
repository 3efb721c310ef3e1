use Rattle.fk_served.specs.Kernels.{world_of as world}
use Rattle.fk_core.proofs.InMoment.Asking.{ready_act, other_act}
use Rattle.fk_core.proofs.moment.moment.Moment.act_besides.Goals as goal

pub returns-clause-ready : goal.returns-clause-ready
returns-clause-ready g c =
    let self = c.args.self.now in
    ready_act self.jobs.now (world self.kernel.now) self.services.now.list self.events c.act_unless.result
    (rw c.porter.ensures at c.act_unless.ensures.other) c.act_unless.ensures.words c.act_unless.ensures.ready

pub returns-clause-other : goal.returns-clause-other
returns-clause-other g c =
    let self = c.args.self.now in
    let other = rw c.porter.ensures at c.act_unless.ensures.other in
    other_act self.jobs.now (world self.kernel.now) self.services.now.list self.events c.act_unless.result other
    (ready_act self.jobs.now (world self.kernel.now) self.services.now.list self.events c.act_unless.result
    other c.act_unless.ensures.words c.act_unless.ensures.ready)

pub returns-clause-none : goal.returns-clause-none
returns-clause-none g c = rw c.porter.ensures at c.act_unless.ensures.none
