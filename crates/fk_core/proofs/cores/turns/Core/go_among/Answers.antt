use Rattle.fk_core.specs.Rounds.Kernels.{world_of as world}
use Rattle.fk_core.specs.Cores.Cores.{run_core}
use Rattle.fk_core.proofs.InCores.Trying.{advanced_of, first_further}
use Rattle.fk_core.proofs.cores.turns.Core.go_among.Goals as goal

pub returns-in-None-clause-first : goal.returns-in-None-clause-first
returns-in-None-clause-first g c =
    let self = c.args.self.now in
    let then = c.go_first.new.self in
    first_further c.go_between.result self.jobs (world self.kernel) self.services.list self.events self.budget then.jobs.jobs then.budget (run_core then)
    (run_core c.go_between.new.self) c.go_first.ensures.jobs c.go_first.ensures.budget (rw c.in-None.is at c.in_ok-m.ensures.made)
    (rw c.in-None.is at c.in_ok-m.ensures.none)
    (advanced_of c.go_between.result then.jobs.jobs then.budget (run_core then) (run_core c.go_between.new.self) c.go_between.ensures.made)
