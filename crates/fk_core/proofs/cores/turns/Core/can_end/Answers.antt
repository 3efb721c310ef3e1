use Rattle.std.proofs.Common.{IfNone}
use Rattle.laws_runs.specs.Cores as runs
use Rattle.laws_runs.specs.Cores.{EndsNow}
use Rattle.fk_core.specs.Rounds.Moments.{seen}
use Rattle.fk_core.specs.Cores.Cores.{house, run_core}
use Rattle.fk_core.proofs.InCores.Trying.{there}
use Rattle.fk_core.proofs.cores.turns.Core.can_end.Goals as goal

pub returns-clause-none : goal.returns-clause-none
returns-clause-none g c =
    let self = c.args.self.now in
    let moment = c.moment.result in
    there (λ q core. IfNone c.can_end.result ((why : runs.Unmoved) → EndsNow (house q.jobs) core why → ⊥)) self.jobs moment.jobs.now (run_core self)
    (seen moment) c.moment.ensures.jobs c.moment.ensures.seen c.can_end.ensures.none
