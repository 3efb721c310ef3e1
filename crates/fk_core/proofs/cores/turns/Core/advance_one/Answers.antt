use Rattle.fk_core.specs.Cores.Cores.{run_core}
use Rattle.fk_core.proofs.InCores.Several.{one_made}
use Rattle.fk_core.proofs.cores.turns.Core.advance_one.Goals as goal

pub returns-in-Some-clause-advanced : goal.returns-in-Some-clause-advanced
returns-in-Some-clause-advanced g c =
    let self = c.args.self.now in
    one_made self.jobs.jobs self.budget c.args.most (run_core self) (run_core c.advance.new.self) c.in-Some.m c.requires.some
    (rw c.in-Some.is at c.in_ok-m.ensures.advanced)
