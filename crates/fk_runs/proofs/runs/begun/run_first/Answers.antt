use Rattle.std.proofs.Common.{map}
use Rattle.fk_first.specs.Cores.{run_core}
use Rattle.fk_runs.proofs.InRuns.From.{run-from}
use Rattle.fk_runs.proofs.runs.begun.run_first.Goals as goal

pub returns-clause-comes : goal.returns-clause-comes
returns-clause-comes g c =
    let core = c.in_ok-core.core in
    run-from c.args.scenario.now c.args.images.now (run_core core) core.budget c.run_core.result
    c.in_ok-core.ensures.first c.in_ok-core.ensures.budget (rw c.as_slice.ensures at c.run_core.ensures.comes)

pub run_core-requires-clause-fits : goal.run_core-requires-clause-fits
run_core-requires-clause-fits g c = λ _ _. c.in_ok-core.ensures.fits (map (λ r. r.rule) c.args.table.now.list.items) c.requires.rules
