use Rattle.std.proofs.Common.{◌≡◌, Some, rules}
use Rattle.std.proofs.lemmas.Result.{err_from_is_err_and}
use Rattle.fk_causes.specs.Shelf.{HasAt}
use Rattle.fk_commands.specs.Files.{record_name, trace_name}
use Rattle.fk_plays.proofs.Refusals.{no-trace, trace-refusal, no-record, with-record}
use Rattle.fk_plays.proofs.replay_command.replay_with.Goals as goal

pub returns-in_err-trace-clause-comes : goal.returns-in_err-trace-clause-comes
returns-in_err-trace-clause-comes g c =
    let p = err_from_is_err_and c.from_residual.result c.from_residual.ensures.1 in
    rw p.1 (rw p.2
    (no-trace c.args.name.now (g.H.Shelf.files c.args.shelf.now) _ _ c.args.scenario.now c.args.images.now _ c.in_err-trace.ensures.fail))

pub returns-in_err-trace-clause-refusal : goal.returns-in_err-trace-clause-refusal
returns-in_err-trace-clause-refusal g c =
    let p = err_from_is_err_and c.from_residual.result c.from_residual.ensures.1 in
    rw p.1 (rw p.2
    (trace-refusal c.args.name.now (g.H.Shelf.files c.args.shelf.now) _ _ c.args.scenario.now c.args.images.now _ c.in_err-trace.ensures.fail))

pub returns-in_err-told-clause-comes : goal.returns-in_err-told-clause-comes
returns-in_err-told-clause-comes g c =
    let files = g.H.Shelf.files c.args.shelf.now in
    let found = c.in_ok-trace.ensures.found in
    let p = err_from_is_err_and c.from_residual-in_err-told.result c.from_residual-in_err-told.ensures.1 in
    rw p.1 (rw p.2
    (no-record c.args.name.now files (g.H.Shelf.failed_gets c.spelled_trace.new.shelf)
    (g.H.Shelf.failed_gets c.record_of.new.shelf) c.args.scenario.now c.args.images.now c.in_ok-trace.trace.items found.1.0 found.0 found.1.1 _
    (rw (← c.in_ok-trace.ensures.same_files) c.in_err-told.ensures.fail)))

pub returns-clause-comes : goal.returns-clause-comes
returns-clause-comes g c =
    let files = g.H.Shelf.files c.args.shelf.now in
    let found = c.in_ok-trace.ensures.found in
    let has : HasAt files (record_name c.args.name.now) (Some c.in_ok-told.told.items) =
    rw (← c.in_ok-trace.ensures.same_files) c.in_ok-told.ensures.found in
    with-record c.args.name.now files 0 0 c.args.scenario.now c.args.images.now c.in_ok-trace.trace.items found.1.0 found.0 found.1.1 c.in_ok-told.told.items
    c.replay_first.result has (rw (← c.deref.ensures.value, ← c.deref-2.ensures.value) c.replay_first.ensures.comes)
