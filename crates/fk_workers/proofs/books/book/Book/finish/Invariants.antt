use Rattle.std.proofs.Common.{◌-◌, length}
use Rattle.fk_workers.specs.Books.Told.{GoesOn}
use Rattle.fk_workers.proofs.books.book.Book.finish.Given as goal

abbrev pub invariant-loop-self : goal.invariant-loop-self
invariant-loop-self g l = GoesOn l.fn.self l.self

abbrev pub decreases-loop-self : goal.decreases-loop-self
decreases-loop-self g l = (g.C.Playable.shown l.self.boot).budget - length l.self.history
