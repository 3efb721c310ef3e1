use Rattle.std.proofs.Common.{◌∙◌, sym}
use Rattle.fk_core.specs.Rounds.Kernels.{world_of as world}
use Rattle.fk_core.proofs.InRounds.Asking.{asked_ready, ready_asked}
use Rattle.fk_core.proofs.InCores.Lacking.{lacks_other}
use Rattle.fk_core.proofs.InCores.Trying.{tried_as}
use Rattle.fk_core.proofs.cores.turns.Core.go_told.Goals as goal

pub returns-else-is_porter-clause-tried : goal.returns-else-is_porter-clause-tried
returns-else-is_porter-clause-tried g c =
    let self = c.args.self.now in
    let other = sym c.is_porter.ensures ∙ c.if-is_porter.false in
    tried_as c.go_other.result _ _ _ _ _ _ (asked_ready self.jobs (world self.kernel) self.services.list self.events c.args.m.now other)
    (ready_asked self.jobs (world self.kernel) self.services.list self.events c.args.m.now other)
    (lacks_other self.jobs (world self.kernel) self.services.list self.events c.args.m.now other) c.go_other.ensures.tried
