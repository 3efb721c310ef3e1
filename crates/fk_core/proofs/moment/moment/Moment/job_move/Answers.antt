use Rattle.std.proofs.Common.{◌∙◌, sym}
use Rattle.fk_served.specs.Kernels.{world_of as world}
use Rattle.fk_core.proofs.InMoment.Asking.{none_ready}
use Rattle.fk_core.proofs.moment.moment.Moment.job_move.Goals as goal

pub returns-else-ready_job-clause-none : goal.returns-else-ready_job-clause-none
returns-else-ready_job-clause-none g c =
    let self = c.args.self.now in
    none_ready self.jobs.now (world self.kernel.now) self.services.now.list self.events c.in_ok-who.who (sym c.porter.ensures ∙ c.in_ok-who.was)
    (λ ready. let yes = c.ready_job.ensures.1 ready in let nay = c.if-ready_job.false in absurd (cc))
