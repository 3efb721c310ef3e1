use Rattle.fk_store.specs.Store.Paths.{path, place}
use Rattle.fk_store.specs.Store.Threads.{todo_at}
use Rattle.fk_store.specs.Store.World.{world}
use Rattle.fk_calls.proofs.InCalls.Families.{leaves}
use Rattle.fk_calls.proofs.calls.answering.call_search.Goals as goal

pub search-requires-clause-apart : goal.search-requires-clause-apart
search-requires-clause-apart c answers =
    leaves answers (todo_at (world c.args.store.now) (place (path c.args.store.now) c.args.m.now.who)) c.requires.idle

pub answer_judged-requires-clause-row : goal.answer_judged-requires-clause-row
answer_judged-requires-clause-row c = rw c.in-Search.is (c.search.ensures.row.outcome c.args.words.now)

pub answer_judged-requires-clause-fits : goal.answer_judged-requires-clause-fits
answer_judged-requires-clause-fits c = c.search.ensures.row.fits
