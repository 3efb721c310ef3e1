use Rattle.std.proofs.Common.{map}
use Rattle.fk_first.specs.Cores.{run_core}
use Rattle.fk_runs.proofs.InRuns.From.{soak-from}
use Rattle.fk_runs.proofs.runs.begun.soak_first.Goals as goal

pub returns-clause-comes : goal.returns-clause-comes
returns-clause-comes g c =
    let core = c.in_ok-core.core in
    soak-from c.args.count c.args.scenario.now (run_core core) core.budget c.soak_core.result
    c.in_ok-core.ensures.first c.in_ok-core.ensures.budget (rw c.as_slice.ensures at c.soak_core.ensures.comes)

pub soak_core-requires-clause-fits : goal.soak_core-requires-clause-fits
soak_core-requires-clause-fits g c = λ _ _. c.in_ok-core.ensures.fits (map (λ r. r.rule) c.args.table.now.list.items) c.requires.rules
