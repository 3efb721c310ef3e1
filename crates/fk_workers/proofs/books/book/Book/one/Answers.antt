use Rattle.std.proofs.Common.{Some, arith}
use Rattle.fk_workers.specs.Books.Shown.{Moves, IsFirstDue}
use Rattle.fk_workers.proofs.InBooks.Runs.{fits_in, was_kept, more_run, took_due}
use Rattle.fk_workers.proofs.books.book.Book.one.Goals as goal

pub make_any-requires-clause-fits : goal.make_any-requires-clause-fits
make_any-requires-clause-fits g c = fits_in g.C.Playable.shown _ _ _ _ _ c.self.view_is c.self.invariant.0 c.requires.fits

pub invariant_of-self-in-Some : goal.invariant_of-self-in-Some
invariant_of-self-in-Some g c =
    let shown = g.C.Playable.shown in
    let moved : Moves (shown c.self.inside.core) c.in-Some.m (shown c.make_any.new.self) = rw c.in-Some.is at c.in_ok-m.ensures.comes in
    let room = c.push.ensures.room in
    let wide = c.self.invariant.1 in
    (more_run _ _ _ _ _ _ c.self.invariant.0 moved c.push.ensures.moves, omega (arith, room, wide))

pub returns-in-Some-clause-kept : goal.returns-in-Some-clause-kept
returns-in-Some-clause-kept g c =
    let shown = g.C.Playable.shown in
    let moved : Moves (shown c.self.inside.core) c.in-Some.m (shown c.make_any.new.self) = rw c.in-Some.is at c.in_ok-m.ensures.comes in (
      was_kept shown _ _ _ _ c.self.view_is c.self.invariant.0,
      more_run _ _ _ _ _ _ c.self.invariant.0 moved c.push.ensures.moves,
    )

pub returns-in-Some-clause-first : goal.returns-in-Some-clause-first
returns-in-Some-clause-first g c =
    let shown = g.C.Playable.shown in
    let first : IsFirstDue (shown c.self.inside.core) (Some c.in-Some.m) = rw c.in-Some.is at c.in_ok-m.ensures.first in
    took_due shown _ _ _ _ _ _ c.self.view_is first c.push.ensures.moves
