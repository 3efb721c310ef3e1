use Rattle.std.proofs.Common.{refl, sym, ◌∙◌}
use Rattle.fk_core.specs.Rounds.Kernels.{world_of as world}
use Rattle.fk_core.specs.Cores.Cores.{run_core}
use Rattle.fk_core.proofs.InCores.Proceeding.{none-asked, none-left}
use Rattle.fk_core.proofs.InCores.Settles.{busy}
use Rattle.fk_core.proofs.cores.turns.Core.settle.Goals as goal

pub returns-then-is_none-clause-settles : goal.returns-then-is_none-clause-settles
returns-then-is_none-clause-settles g c =
    let self = c.args.self.now in
    none-left self.jobs (run_core self) refl (sym c.current.ensures ∙ none-asked _ _ c.is_none.result c.is_none.ensures c.if-is_none.true)

pub returns-then-is_at_work-clause-settles : goal.returns-then-is_at_work-clause-settles
returns-then-is_at_work-clause-settles g c =
    let self = c.args.self.now in
    busy self.jobs.jobs (world self.kernel) self.services.list self.jobs self.events (cc)
