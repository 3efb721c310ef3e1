use Rattle.std.proofs.Common.{◌∙◌, sym}
use Rattle.fk_core.specs.Rounds.Kernels.{world_of as world}
use Rattle.fk_core.proofs.InRounds.Acts.{unserved_runs}
use Rattle.fk_core.proofs.cores.turns.Core.go_other.Goals as goal

pub go_user-requires-clause-runs : goal.go_user-requires-clause-runs
go_user-requires-clause-runs g c =
    let self = c.args.self.now in
    unserved_runs self.services.list (world self.kernel) c.args.m.now.who (sym c.is_served.ensures ∙ c.if-is_served.false)
