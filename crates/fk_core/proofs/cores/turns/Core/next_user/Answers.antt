use Rattle.fk_core.specs.Rounds.Kernels.{world_of as world}
use Rattle.fk_core.specs.Rounds.Events.{IsReadyBesides}
use Rattle.fk_served.proofs.Idle.{if-none}
use Rattle.fk_core.proofs.InRounds.Acting.{runs-other, if-some}
use Rattle.fk_core.proofs.InRounds.Asking.{others_ready}
use Rattle.fk_core.specs.Cores.Cores.{run_core, IsReadyMove}
use Rattle.fk_core.proofs.cores.turns.Core.next_user.Goals as goal

pub returns-clause-ready : goal.returns-clause-ready
returns-clause-ready g c =
    let self = c.args.self.now in
    if-some c.next_besides.result (λ m. IsReadyBesides (world self.kernel) c.porter-porter.result m) (λ m. IsReadyMove self.jobs.jobs (run_core self) m)
    (λ m ready. others_ready self.jobs (world self.kernel) self.services.list self.events m
    (runs-other self.jobs (world self.kernel) self.services.list self.events m (rw c.porter-porter.ensures at ready.0) ready.1))
    c.next_besides.ensures.ready

pub returns-clause-none : goal.returns-clause-none
returns-clause-none g c =
    if-none c.next_besides.result _ _ (λ none m other ready. none m (rw c.porter-porter.ensures other, ready)) c.next_besides.ensures.none
