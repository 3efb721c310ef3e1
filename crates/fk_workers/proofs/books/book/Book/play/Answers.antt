use Rattle.std.proofs.Common.{arith}
use Rattle.std.proofs.lemmas.Bool.{OnTrue_at}
use Rattle.fk_workers.specs.Books.Shown.{Moves}
use Rattle.fk_workers.proofs.InBooks.Runs.{fits_in, was_kept, more_run}
use Rattle.fk_workers.proofs.books.book.Book.play.Goals as goal

pub make-requires-clause-fits : goal.make-requires-clause-fits
make-requires-clause-fits g c = fits_in g.C.Playable.shown _ _ _ _ _ c.self.view_is c.self.invariant.0 c.requires.fits

pub invariant_of-self-then-branch : goal.invariant_of-self-then-branch
invariant_of-self-then-branch g c =
    let shown = g.C.Playable.shown in
    let moved : Moves (shown c.self.inside.core) c.args.m.now (shown c.make.new.self) = OnTrue_at c.if-branch.true c.in_ok-make.ensures.made in
    let room = c.push.ensures.room in
    let wide = c.self.invariant.1 in
    (more_run _ _ _ _ _ _ c.self.invariant.0 moved c.push.ensures.moves, omega (arith, room, wide))

pub returns-then-branch-clause-kept : goal.returns-then-branch-clause-kept
returns-then-branch-clause-kept g c =
    let shown = g.C.Playable.shown in
    let moved : Moves (shown c.self.inside.core) c.args.m.now (shown c.make.new.self) = OnTrue_at c.if-branch.true c.in_ok-make.ensures.made in (
      was_kept shown _ _ _ _ c.self.view_is c.self.invariant.0,
      more_run _ _ _ _ _ _ c.self.invariant.0 moved c.push.ensures.moves,
    )
