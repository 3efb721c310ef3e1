use Rattle.std.proofs.Common.{IfSome}
use Rattle.fk_core.specs.Rounds.Moments.{seen}
use Rattle.fk_core.specs.Cores.Cores.{run_core, IsReadyMove}
use Rattle.fk_core.proofs.InCores.Trying.{there_by}
use Rattle.fk_core.proofs.cores.turns.Core.few_acts.Goals as goal

pub returns : goal.returns
returns g c =
    let self = c.args.self.now in
    let moment = c.moment.result in
    there_by (λ q budget core. IfSome c.choose_few.result (λ m. IsReadyMove q.jobs core m))
    self.jobs moment.jobs.now self.budget moment.budget (run_core self) (seen moment) c.moment.ensures.jobs c.moment.ensures.budget
    c.moment.ensures.seen c.choose_few.ensures
