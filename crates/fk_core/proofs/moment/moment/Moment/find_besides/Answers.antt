use Rattle.std.proofs.Common.{subst}
use Rattle.fk_served.specs.Kernels.{world_of as world}
use Rattle.fk_jobs.specs.Jobs.{current}
use Rattle.fk_core.specs.Moment.Moments.{porter_of}
use Rattle.fk_served.specs.Acts.{HaveNoActs}
use Rattle.fk_served.proofs.Idle.{if-none}
use Rattle.fk_core.proofs.InMoment.Acting.{over}
use Rattle.fk_core.proofs.InMoment.Asking.{no_move}
use Rattle.fk_core.proofs.moment.moment.Moment.find_besides.Goals as goal

pub returns-in-None-clause-none : goal.returns-in-None-clause-none
returns-in-None-clause-none g c =
    let self = c.args.self.now in
    let acts = subst (HaveNoActs self.services.now.list (world self.kernel.now) (porter_of (current self.jobs.now)) 0) c.len.ensures c.in-None.ensures.none in
    if-none c.job_move.result _ _ (λ none. no_move self.jobs.now (world self.kernel.now) self.services.now.list self.events none
    (λ any. over self.jobs.now (world self.kernel.now) self.services.now.list self.events c.requires acts any)) c.job_move.ensures.none
