use Rattle.std.proofs.Common.{map}
use Rattle.std.proofs.lemmas.Result.{err_from_is_err_and}
use Rattle.fk_first.specs.Cores.{run_core}
use Rattle.fk_trace.specs.Posts.{words_of_all}
use Rattle.fk_runs.proofs.InRecordings.Refusals.{bad-record, bad-refusal, replayed-by}
use Rattle.fk_runs.proofs.recordings.replaying.replay_first.Goals as goal

pub returns-in_err-lists-clause-comes : goal.returns-in_err-lists-clause-comes
returns-in_err-lists-clause-comes g c =
    let p = err_from_is_err_and c.from_residual.result c.from_residual.ensures.1 in
    rw p.1 (rw p.2 (bad-record c.args.scenario.now c.args.images.now c.args.trace.now c.args.told.now _ c.in_err-lists.ensures.fail))

pub play_core-requires-clause-fits : goal.play_core-requires-clause-fits
play_core-requires-clause-fits g c = c.in_ok-core.ensures.fits (map (λ r. r.rule) c.args.table.now.list.items) c.requires.rules

pub returns-clause-comes : goal.returns-clause-comes
returns-clause-comes g c =
    let core = c.in_ok-core.core in
    let found = c.in_ok-lists.ensures.found in
    replayed-by c.args.scenario.now c.args.images.now c.args.trace.now c.args.told.now found.0 (words_of_all c.in_ok-lists.lists.items)
    (run_core core) core.budget
    c.play_core.result found.1 found.2 c.in_ok-core.ensures.first c.in_ok-core.ensures.budget (rw c.as_slice.ensures at c.play_core.ensures.comes)
