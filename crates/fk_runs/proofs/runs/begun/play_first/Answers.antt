use Rattle.std.proofs.Common.{map}
use Rattle.fk_first.specs.Cores.{run_core}
use Rattle.fk_runs.proofs.InRuns.From.{played-from}
use Rattle.fk_runs.proofs.runs.begun.play_first.Goals as goal

pub returns-clause-comes : goal.returns-clause-comes
returns-clause-comes g c =
    let core = c.in_ok-core.core in
    played-from c.args.scenario.now c.args.images.now c.args.trace.now (run_core core) core.budget c.play_core.result
    c.in_ok-core.ensures.first c.in_ok-core.ensures.budget (rw c.as_slice.ensures at c.play_core.ensures.comes)

pub play_core-requires-clause-fits : goal.play_core-requires-clause-fits
play_core-requires-clause-fits g c = c.in_ok-core.ensures.fits (map (λ r. r.rule) c.args.table.now.list.items) c.requires.rules
