use Rattle.std.proofs.Common.{◌≡◌, ◌++◌, length}
use Rattle.fk_trace_text.specs.Trace.{trace_text, AreLegal}
use Rattle.fk_workers.specs.Books.Told.{IsKept}
use Rattle.fk_workers.specs.Books.Plays.{MayPlay}
use Rattle.fk_workers.proofs.books.plays.play_all.Given as goal

-- the moves so far are legal and spelled, and stand in the book
abbrev pub invariant-loop-rest : goal.invariant-loop-rest
invariant-loop-rest g l = record {
  boot : l.book.boot ≡ l.fn.first;
  kept : IsKept g.C.Playable.shown l.book;
  legal : AreLegal (MayPlay (g.C.Playable.shown l.fn.first)) l.book.history;
  spelled : l.trace ≡ trace_text l.book.history ++ l.rest;
}

abbrev pub decreases-loop-rest : goal.decreases-loop-rest
decreases-loop-rest g l = length l.rest
