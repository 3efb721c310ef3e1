use Rattle.std.proofs.Common.{◌≡◌, map}
use Rattle.fk_embed.specs.Jobs.{GoesOn}
use Rattle.fk_jobs.specs.Porters.{state_of}
use Rattle.fk_served.specs.Kernels.{world_of as world}
use Rattle.fk_served.specs.Served.{AllFit}
use Rattle.fk_embed.proofs.job.HostJob.go.Given as goal

-- the job has gone on so far, and the table fits the servers still
abbrev pub invariant-loop : goal.invariant-loop
invariant-loop g l = record {
  goes : GoesOn l.fn.self.nester (world l.fn.host.kernel) (state_of l.fn.self.porter) (world l.host.kernel) (state_of l.self.porter);
  fits : AllFit (map (λ r. r.rule) l.table.list.items) l.host.services.list;
  nester : l.self.nester ≡ l.fn.self.nester;
}
