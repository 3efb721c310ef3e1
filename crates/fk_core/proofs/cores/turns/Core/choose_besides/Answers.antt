use Rattle.std.proofs.Common.{IfSome, IfNone, ap, sym, subst}
use Rattle.fk_jobs.specs.Jobs.{Queue}
use Rattle.fk_model.specs.World.{World}
use Rattle.fk_core.specs.Rounds.Moments.{seen, AreUsersIdle}
use Rattle.fk_core.specs.Rounds.Kernels.{world_of as world}
use Rattle.fk_core.specs.Cores.Cores.{run_core, IsAnyMove, IsReadyMove, RunCore}
use Rattle.fk_core.proofs.InCores.Trying.{there_by}
use Rattle.fk_core.proofs.cores.turns.Core.choose_besides.Goals as goal

pub find_besides-requires : goal.find_besides-requires
find_besides-requires g c =
    let self = c.args.self.now in
    subst (λ (q : Queue). AreUsersIdle q (world c.moment.result.kernel.now)) (sym c.moment.ensures.jobs)
    (subst (λ (w : World). AreUsersIdle self.jobs w) (sym (ap (λ (core : RunCore). core.world) c.moment.ensures.seen)) c.requires)

pub returns-clause-ready : goal.returns-clause-ready
returns-clause-ready g c =
    let self = c.args.self.now in
    let moment = c.moment.result in
    there_by (λ q budget core. IfSome c.find_besides.result (λ m. IsReadyMove q.jobs core m))
    self.jobs moment.jobs.now self.budget moment.budget (run_core self) (seen moment) c.moment.ensures.jobs c.moment.ensures.budget
    c.moment.ensures.seen c.find_besides.ensures.ready

pub returns-clause-none : goal.returns-clause-none
returns-clause-none g c =
    let self = c.args.self.now in
    let moment = c.moment.result in
    there_by (λ q budget core. IfNone c.find_besides.result (IsAnyMove q.jobs core → ⊥))
    self.jobs moment.jobs.now self.budget moment.budget (run_core self) (seen moment) c.moment.ensures.jobs c.moment.ensures.budget
    c.moment.ensures.seen c.find_besides.ensures.none
