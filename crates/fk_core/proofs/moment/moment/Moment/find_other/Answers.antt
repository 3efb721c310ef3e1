use Rattle.std.proofs.Common.{subst}
use Rattle.fk_served.specs.Kernels.{world_of as world}
use Rattle.fk_jobs.specs.Jobs.{current}
use Rattle.fk_core.specs.Moment.Moments.{porter_of}
use Rattle.fk_served.specs.Acts.{HaveNoActs}
use Rattle.fk_served.proofs.Idle.{if-none}
use Rattle.fk_core.proofs.InMoment.Acting.{over}
use Rattle.fk_core.proofs.moment.moment.Moment.find_other.Goals as goal

pub returns-in-None-clause-none : goal.returns-in-None-clause-none
returns-in-None-clause-none g c =
    let self = c.args.self.now in
    if-none c.find_act.result _ _
    (λ acts any. over self.jobs.now (world self.kernel.now) self.services.now.list self.events c.in-None.ensures.none
    (subst (HaveNoActs self.services.now.list (world self.kernel.now) (porter_of (current self.jobs.now)) 0) c.len.ensures acts) any)
    c.find_act.ensures.none
