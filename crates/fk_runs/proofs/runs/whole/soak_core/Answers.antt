use Rattle.std.proofs.Common.{[]}
use Rattle.fk_first.specs.Cores.{run_core}
use Rattle.fk_runs.specs.RunReports.Made.{IsLine}
use Rattle.fk_runs.proofs.InRuns.Starting.{may_begin}
use Rattle.fk_runs.proofs.InRuns.Made.{alone}
use Rattle.fk_runs.proofs.runs.whole.soak_core.Goals as goal

pub run_all-requires-clause-sound : goal.run_all-requires-clause-sound
run_all-requires-clause-sound g c = λ _ _. let core = c.args.core in may_begin core.jobs.jobs core.budget (run_core core) c.requires.come c.requires.first

pub returns-clause-comes : goal.returns-clause-comes
returns-clause-comes g c =
    let made = rw c.in_ok-book.ensures.boot at c.in_ok-soaked_of.ensures in
    let kept = rw c.in_ok-book.ensures.boot at c.in_ok-book.ensures.kept in
    alone (IsLine c.args.count) c.args.specs.now [] _ _ c.in_ok-book.book.history c.in_ok-soaked_of.field-0 c.requires.jobs kept made c.in_ok-book.ensures.ended
