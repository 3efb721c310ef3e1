use Rattle.std.proofs.Common.{arith}
use Rattle.fk_workers.proofs.InBooks.Runs.{no_run}
use Rattle.fk_workers.proofs.books.book.Book.of.Goals as goal

pub invariant_of-result : goal.invariant_of-result
invariant_of-result g c =
    let first = g.C.Playable.shown c.args.first in
    let most = c.most_moves.ensures in
    let room = c.in_ok-history.ensures.room in
    rw (c.of-boot.ensures, c.in_ok-history.ensures.moves) (no_run first c.requires.sound, omega (arith, most, room))
