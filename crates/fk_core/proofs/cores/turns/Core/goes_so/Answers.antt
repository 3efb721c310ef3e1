use Rattle.std.proofs.Common.{arith}
use Rattle.fk_core.specs.Cores.Cores.{run_core}
use Rattle.fk_core.proofs.InCores.Bursting.{burst_made, burst_none}
use Rattle.fk_core.proofs.cores.turns.Core.goes_so.Goals as goal

pub returns-then-count-gt0-clause-turns : goal.returns-then-count-gt0-clause-turns
returns-then-count-gt0-clause-turns g c = λ m come made.
    let self = c.args.self.now in
    burst_made m self.kernel self.services.list self.jobs self.budget self.events c.args.count c.args.thread (run_core c.went.new.self)
    come c.requires.few made (omega arith) c.went.ensures.settles

pub returns-else-count-gt0-clause-turns : goal.returns-else-count-gt0-clause-turns
returns-else-count-gt0-clause-turns g c = λ m come made.
    let self = c.args.self.now in
    burst_none m self.kernel self.services.list self.jobs self.events c.args.count c.args.thread made (omega arith)
