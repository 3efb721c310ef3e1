use Rattle.std.proofs.Common.{◌≡◌, ◌+◌, length}
use Rattle.fk_workers.specs.Books.Told.{GoesOn}
use Rattle.fk_workers.proofs.books.book.Book.several.Given as goal

abbrev pub invariant-loop : goal.invariant-loop
invariant-loop g l = GoesOn l.fn.self l.self × (length l.self.history + l.left ≡ length l.fn.self.history + l.most)
