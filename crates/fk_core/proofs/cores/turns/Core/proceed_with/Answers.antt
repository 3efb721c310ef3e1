use Rattle.std.proofs.Common.{refl, subst}
use Rattle.fk_core.specs.Rounds.Kernels.{Kept}
use Rattle.fk_core.specs.Cores.Cores.{core_at, run_core, IsAdvanced}
use Rattle.fk_core.proofs.InCores.Proceeding.{proceeded, none-left, no-porter}
use Rattle.fk_core.proofs.cores.turns.Core.proceed_with.Goals as goal

pub returns-in-Made-clause-advanced : goal.returns-in-Made-clause-advanced
returns-in-Made-clause-advanced g c =
    let self = c.args.self.now in
    proceeded self.kernel c.proceed_on.new.self self.services.list self.jobs self.budget self.events c.args.who _ c.requires.few
    (no-porter self.jobs c.args.who c.requires.none)
    (rw c.in-Made.is at c.proceed_on.ensures.made)
    (rw c.in-Made.is at c.proceed_on.ensures.ended)
    (none-left self.jobs _ refl c.requires.none) refl

pub returns-in-Not-clause-advanced : goal.returns-in-Not-clause-advanced
returns-in-Not-clause-advanced g c =
    let self = c.args.self.now in
    let same = rw c.in-Not.is at c.proceed_on.ensures.same in
    subst (λ (k : Kept). IsAdvanced self.jobs.jobs self.budget (core_at k self.services.list self.jobs self.events) c.pick_on.result
    (run_core c.pick_on.new.self)) same c.pick_on.ensures.advanced
