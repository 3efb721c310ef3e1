use Rattle.std.proofs.Common.{◌∙◌, refl, ap}
use Rattle.fk_core.specs.Rounds.Kernels.{world_of as world}
use Rattle.fk_jobs.specs.Ended.{unmoved_of}
use Rattle.fk_jobs.specs.Jobs.{Queue}
use Rattle.fk_core.specs.Cores.Cores.{run_core}
use Rattle.fk_core.proofs.InCores.Settles.{fewer, none_of, one_idle, stays}
use Rattle.fk_core.proofs.cores.turns.Core.settle_idle.Goals as goal

pub loop-why-init : goal.loop-why-init
loop-why-init g c = record { kernel = refl; services = refl; budget = refl; events = refl; jobs = refl; carries = λ last rest. rest }

pub loop-why-smaller : goal.loop-why-smaller
loop-why-smaller g c =
    let self = c.loop-why.self in
    fewer self.jobs c.end_idle.new.self (world self.kernel) self.services.list self.events (unmoved_of c.in-Some.why)
    (rw c.in-Some.is at c.can_end.ensures.some) c.end_idle.ensures

pub loop-why-preserved : goal.loop-why-preserved
loop-why-preserved g c =
    let first = c.args.self.now in
    let self = c.loop-why.self in
    let kept = c.loop-why.invariant in
    record {
      kernel = kept.kernel;
      services = kept.services;
      budget = kept.budget;
      events = kept.events;
      jobs = ◌∙◌ {b = self.jobs.jobs} (ap (λ (q : Queue). q.jobs) c.end_idle.ensures) kept.jobs;
      carries = one_idle first.jobs.jobs (run_core first) (world self.kernel) self.services.list self.jobs c.end_idle.new.self self.events
          (unmoved_of c.in-Some.why) kept.jobs kept.carries (rw c.in-Some.is at c.can_end.ensures.some) c.end_idle.ensures;
    }

pub returns-clause-settles : goal.returns-clause-settles
returns-clause-settles g c =
    let first = c.args.self.now in
    let self = c.loop-why.self in
    stays first.jobs.jobs (run_core first) (world self.kernel) self.services.list self.jobs self.events
    c.loop-why.invariant.jobs c.loop-why.invariant.carries (none_of c.can_end.result _ c.in_default.not-Some c.can_end.ensures.none)
