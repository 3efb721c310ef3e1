use Rattle.std.proofs.Common.{◌<◌, IfSome}
use Rattle.fk_core.specs.Rounds.Moments.{seen}
use Rattle.fk_core.specs.Cores.Cores.{run_core, IsReadyMove}
use Rattle.fk_core.proofs.InCores.Trying.{there_by}
use Rattle.fk_core.proofs.cores.turns.Core.choose_act.Goals as goal

pub returns-clause-ready : goal.returns-clause-ready
returns-clause-ready g c =
    let self = c.args.self.now in
    let moment = c.of-moment.result in
    there_by (λ q budget core. IfSome c.choose_act.result (λ m. (core.events < budget) × IsReadyMove q.jobs core m))
    self.jobs moment.jobs.now self.budget moment.budget (run_core self) (seen moment) c.of-moment.ensures.jobs c.of-moment.ensures.budget
    c.of-moment.ensures.seen c.choose_act.ensures
