use Rattle.std.proofs.Common.{◌↔◌, IsTrue}
use Rattle.fk_core.specs.Rounds.Moments.{seen}
use Rattle.fk_core.specs.Cores.Cores.{run_core, IsAnyMove}
use Rattle.fk_core.proofs.InCores.Trying.{there}
use Rattle.fk_core.proofs.cores.turns.Core.has_move.Goals as goal

pub returns : goal.returns
returns g c =
    let self = c.args.self.now in
    let moment = c.moment.result in
    there (λ q core. IsTrue c.has_move.result ↔ IsAnyMove q.jobs core) self.jobs moment.jobs.now (run_core self) (seen moment) c.moment.ensures.jobs
    c.moment.ensures.seen c.has_move.ensures
