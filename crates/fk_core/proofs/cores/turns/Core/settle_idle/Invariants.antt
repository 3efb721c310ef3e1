use Rattle.std.proofs.Common.{◌≡◌, ◌-◌, length}
use Rattle.fk_core.specs.Cores.Cores.{run_core}
use Rattle.fk_core.proofs.InCores.Settles.{Carries}
use Rattle.fk_core.proofs.cores.turns.Core.settle_idle.Given as goal

abbrev pub invariant-loop-why : goal.invariant-loop-why
invariant-loop-why g l = record {
  kernel : l.self.kernel ≡ l.fn.self.kernel;
  services : l.self.services ≡ l.fn.self.services;
  budget : l.self.budget ≡ l.fn.self.budget;
  events : l.self.events ≡ l.fn.self.events;
  jobs : l.self.jobs.jobs ≡ l.fn.self.jobs.jobs;
  carries : Carries l.fn.self.jobs.jobs (run_core l.fn.self) (run_core l.self);
}

abbrev pub decreases-loop-why : goal.decreases-loop-why
decreases-loop-why g l = length l.self.jobs.jobs - length l.self.jobs.ends
