use Rattle.std.proofs.Common.{◌<◌, IsSome, refl, sym, subst}
use Rattle.fk_core.specs.Rounds.Moments.{seen}
use Rattle.fk_core.specs.Cores.Cores.{run_core}
use Rattle.fk_core.proofs.InCores.Trying.{there_by}
use Rattle.fk_core.proofs.cores.turns.Core.heard.Goals as goal

pub returns-clause-few : goal.returns-clause-few
returns-clause-few g c some =
    let self = c.args.self.now in
    let moment = c.moment.result in
    there_by (λ q budget core. IsSome c.heard.result → core.events < budget) self.jobs moment.jobs.now self.budget moment.budget (run_core self)
    (seen moment) c.moment.ensures.jobs c.moment.ensures.budget c.moment.ensures.seen c.heard.ensures (subst (λ o. IsSome o) (sym c.in-Some.is) refl)
