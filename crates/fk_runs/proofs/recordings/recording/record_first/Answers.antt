use Rattle.std.proofs.Common.{map}
use Rattle.fk_runs.specs.Recordings.Recording.{watch_place}
use Rattle.fk_runs.specs.Recordings.Told.{shown}
use Rattle.fk_runs.proofs.InRecordings.WithTaps.{recorded-first}
use Rattle.fk_runs.proofs.recordings.recording.record_first.Goals as goal

pub finished-requires-clause-fits : goal.finished-requires-clause-fits
finished-requires-clause-fits g c = c.in_ok-core.ensures.fits (map (λ r. r.rule) c.args.table.now.list.items) c.requires.rules

pub returns-clause-comes : goal.returns-clause-comes
returns-clause-comes g c =
    let book = c.in_ok-book.ensures in
    let core = c.in_ok-core.ensures in
    let first = rw c.place_of.ensures.place at core.first in
    recorded-first c.args.scenario.now c.args.images.now (watch_place c.args.watch) (shown c.in_ok-core.core)
    (shown c.in_ok-book.book.core) c.in_ok-book.book.history
    c.in_ok-made.made first core.jobs core.budget (rw book.boot at book.kept) book.ended (rw book.boot at c.in_ok-made.ensures)
