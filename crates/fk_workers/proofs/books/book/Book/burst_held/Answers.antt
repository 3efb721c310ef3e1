use Rattle.std.proofs.Common.{arith}
use Rattle.std.proofs.lemmas.Bool.{OnTrue_at}
use Rattle.fk_workers.specs.Books.Shown.{MovesSo, moves_of}
use Rattle.fk_workers.proofs.InBooks.Runs.{was_kept}
use Rattle.fk_workers.proofs.InBooks.Bursting.{run_so, room_so, pushed_so}
use Rattle.fk_workers.proofs.books.book.Book.burst_held.Goals as goal

pub add-requires : goal.add-requires
add-requires g c =
    let shown = g.C.Playable.shown in
    let moved : MovesSo (shown c.self.inside.core) (moves_of c.args.lease.now) (shown c.burst.new.self) = OnTrue_at c.if-burst.true c.burst.ensures.moves in
    room_so _ _ _ _ c.args.lease.now _ _ c.self.invariant.0 moved c.count-made.ensures c.self.invariant.1

pub invariant_of-self : goal.invariant_of-self
invariant_of-self g c =
    let shown = g.C.Playable.shown in
    let moved : MovesSo (shown c.self.inside.core) (moves_of c.args.lease.now) (shown c.burst.new.self) = OnTrue_at c.if-burst.true c.burst.ensures.moves in
    let items = pushed_so c.args.lease.now _ _ _ _ c.thread-who.ensures c.count-made.ensures c.add.ensures.moves in
    let room = c.add.ensures.room in
    let wide = c.self.invariant.1 in
    (run_so _ _ _ _ _ _ c.self.invariant.0 moved items, omega (arith, room, wide))

pub returns-then-burst-clause-kept : goal.returns-then-burst-clause-kept
returns-then-burst-clause-kept g c =
    let shown = g.C.Playable.shown in
    let moved : MovesSo (shown c.self.inside.core) (moves_of c.args.lease.now) (shown c.burst.new.self) = OnTrue_at c.if-burst.true c.burst.ensures.moves in
    let items = pushed_so c.args.lease.now _ _ _ _ c.thread-who.ensures c.count-made.ensures c.add.ensures.moves in
    (was_kept shown _ _ _ _ c.self.view_is c.self.invariant.0, run_so _ _ _ _ _ _ c.self.invariant.0 moved items)
