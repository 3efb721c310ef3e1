use Rattle.std.proofs.lemmas.Bool.{OnFalse_at}
use Rattle.fk_trace_text.proofs.Traces.{BeginsWithNone-first}
use Rattle.fk_workers.specs.Books.Shown.{MayMove}
use Rattle.fk_workers.proofs.books.plays.play_next.Goals as goal

-- the line that stands first is of a move that may not be made
pub returns-else-branch-clause-none : goal.returns-else-branch-clause-none
returns-else-branch-clause-none g c =
    BeginsWithNone-first (MayMove (g.C.Playable.shown c.args.book.now.core)) c.args.text.now c.in-Some.m c.in-Some.rest.now c.in-Some.ensures.found
    (λ allowed. OnFalse_at c.if-branch.false c.in_ok-play.ensures.unready allowed)
