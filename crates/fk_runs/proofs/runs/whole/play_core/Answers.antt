use Rattle.std.proofs.Common.{refl}
use Rattle.fk_first.specs.Cores.{run_core}
use Rattle.fk_runs.specs.Runs.Runs.{begun}
use Rattle.fk_runs.proofs.InRuns.Starting.{may_begin}
use Rattle.fk_runs.proofs.InRuns.Made.{played}
use Rattle.fk_trace_text.specs.Trace.{IsFirstBad}
use Rattle.fk_workers.specs.Workers.Plays.{MayPlay}
use Rattle.fk_runs.proofs.runs.whole.play_core.Goals as goal

pub play_all-requires-clause-sound : goal.play_all-requires-clause-sound
play_all-requires-clause-sound g c = let core = c.args.core in may_begin core.jobs.jobs core.budget (run_core core) c.requires.come c.requires.first

pub returns-in-Err-Trace-clause-comes : goal.returns-in-Err-Trace-clause-comes
returns-in-Err-Trace-clause-comes g c =
    let core = c.args.core in
    let cause : IsFirstBad (MayPlay (begun c.args.specs.now c.args.images.now core.budget (run_core core))) c.args.trace.now
    c.in-Err-Trace.index = rw (c.requires.jobs, c.in-Err-Trace.field-0-is) at c.in-Err-Trace.ensures.cause in
    let is = c.in-Err-Trace.index-is in
    (c.in-Err-Trace.index, cc, cause, refl)

pub returns-clause-comes : goal.returns-clause-comes
returns-clause-comes g c =
    let found = c.in-Ok.ensures in
    let made = rw found.boot at c.in_ok-prepared_of.ensures in
    let kept = rw found.boot at found.kept in
    played c.args.specs.now c.args.images.now _ _ c.in-Ok.book.history c.in_ok-prepared_of.field-0 c.args.trace.now c.requires.jobs kept made found.found
