use Rattle.std.proofs.Common.{◌≡◌, ◌<◌, true, IfSome, IfNone}
use Rattle.fk_core.specs.Rounds.Moments.{seen}
use Rattle.fk_core.specs.Cores.Cores.{run_core, has_come, is_porter, IsReadyMove}
use Rattle.fk_core.proofs.InCores.Trying.{there_by}
use Rattle.fk_core.proofs.cores.turns.Core.job_first.Goals as goal

pub returns-clause-ready : goal.returns-clause-ready
returns-clause-ready g c =
    let self = c.args.self.now in
    let moment = c.moment.result in
    there_by (λ q budget core. IfSome c.job_first.result (λ m. (core.events < budget) × IsReadyMove q.jobs core m))
    self.jobs moment.jobs.now self.budget moment.budget (run_core self) (seen moment) c.moment.ensures.jobs c.moment.ensures.budget
    c.moment.ensures.seen c.job_first.ensures.ready

pub returns-clause-porter : goal.returns-clause-porter
returns-clause-porter g c =
    let self = c.args.self.now in
    let moment = c.moment.result in
    there_by (λ q budget core. IfSome c.job_first.result (λ m. is_porter q m.who ≡ true))
    self.jobs moment.jobs.now self.budget moment.budget (run_core self) (seen moment) c.moment.ensures.jobs c.moment.ensures.budget
    c.moment.ensures.seen c.job_first.ensures.porter

pub returns-clause-none : goal.returns-clause-none
returns-clause-none g c =
    let self = c.args.self.now in
    let moment = c.moment.result in
    there_by (λ q budget core. IfNone c.job_first.result (has_come q budget core.events ≡ true → (m : _) → is_porter q m.who ≡ true →
    IsReadyMove q.jobs core m → ⊥))
    self.jobs moment.jobs.now self.budget moment.budget (run_core self) (seen moment) c.moment.ensures.jobs c.moment.ensures.budget
    c.moment.ensures.seen c.job_first.ensures.none
