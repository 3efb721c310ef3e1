use Rattle.std.proofs.Common.{Some, refl, ap}
use Rattle.fk_core.specs.Rounds.Kernels.{Kept}
use Rattle.fk_core.specs.Cores.Cores.{core_at}
use Rattle.fk_core.proofs.InCores.Proceeding.{proceeded_by, none-left, no-porter}
use Rattle.fk_core.proofs.cores.turns.Core.pick_on.Goals as goal

pub returns-in-Some-clause-advanced : goal.returns-in-Some-clause-advanced
returns-in-Some-clause-advanced g c =
    let self = c.args.self.now in
    proceeded_by self.kernel c.pick.new.self self.services.list self.jobs self.budget self.events c.args.who (Some c.in-Some.other) _ c.requires.few
    (no-porter self.jobs c.args.who c.requires.none) c.in-Some.ensures.made (c.in-Some.ensures.ended refl) (none-left self.jobs _ refl c.requires.none)
    refl

pub returns-in-None-clause-advanced : goal.returns-in-None-clause-advanced
returns-in-None-clause-advanced g c =
    let self = c.args.self.now in
    ap (λ (k : Kept). core_at k self.services.list self.jobs self.events) c.in-None.ensures.same
