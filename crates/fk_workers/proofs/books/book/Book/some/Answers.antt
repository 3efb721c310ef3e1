use Rattle.std.proofs.Common.{Some, refl, arith}
use Rattle.fk_workers.specs.Books.Shown.{ComesBy}
use Rattle.fk_workers.proofs.InBooks.Bursting.{longer_by, room_by, run_so}
use Rattle.fk_workers.proofs.InBooks.Runs.{fits_in, was_kept}
use Rattle.fk_workers.proofs.books.book.Book.some.Goals as goal

pub make_some-requires-clause-fits : goal.make_some-requires-clause-fits
make_some-requires-clause-fits g c = fits_in g.C.Playable.shown _ _ _ _ _ c.self.view_is c.self.invariant.0 c.requires.fits

pub add-requires : goal.add-requires
add-requires g c =
    let shown = g.C.Playable.shown in
    let moved : ComesBy (shown c.self.inside.core) c.args.most (Some (c.in-Some.m, c.in-Some.times)) (shown c.make_some.new.self)
    = rw c.in-Some.is at c.in_ok-m.ensures.comes in
    room_by _ _ _ _ c.in-Some.times _ c.in-Some.m c.self.invariant.0 moved.2 c.self.invariant.1

pub invariant_of-self-in-Some : goal.invariant_of-self-in-Some
invariant_of-self-in-Some g c =
    let shown = g.C.Playable.shown in
    let moved : ComesBy (shown c.self.inside.core) c.args.most (Some (c.in-Some.m, c.in-Some.times)) (shown c.make_some.new.self)
    = rw c.in-Some.is at c.in_ok-m.ensures.comes in
    let room = c.add.ensures.room in
    let wide = c.self.invariant.1 in
    (run_so _ _ _ _ _ _ c.self.invariant.0 moved.2 c.add.ensures.moves, omega (arith, room, wide))

pub returns-in-Some-clause-kept : goal.returns-in-Some-clause-kept
returns-in-Some-clause-kept g c =
    let shown = g.C.Playable.shown in
    let moved : ComesBy (shown c.self.inside.core) c.args.most (Some (c.in-Some.m, c.in-Some.times)) (shown c.make_some.new.self)
    = rw c.in-Some.is at c.in_ok-m.ensures.comes in
    (was_kept shown _ _ _ _ c.self.view_is c.self.invariant.0, run_so _ _ _ _ _ _ c.self.invariant.0 moved.2 c.add.ensures.moves)

pub returns-in-Some-clause-made : goal.returns-in-Some-clause-made
returns-in-Some-clause-made g c =
    let shown = g.C.Playable.shown in
    let moved : ComesBy (shown c.self.inside.core) c.args.most (Some (c.in-Some.m, c.in-Some.times)) (shown c.make_some.new.self)
    = rw c.in-Some.is at c.in_ok-m.ensures.comes in
    rw (← c.self.view_is) (moved.1, λ some. (c.in-Some.m, record { boot = refl; moved = moved.2; history = c.add.ensures.moves }))

pub returns-in-Some-clause-longer : goal.returns-in-Some-clause-longer
returns-in-Some-clause-longer g c = rw (← c.self.view_is) (longer_by _ _ c.in-Some.times c.in-Some.m c.add.ensures.moves)

pub returns-in-Some-clause-ended : goal.returns-in-Some-clause-ended
returns-in-Some-clause-ended g c none =
    let shown = g.C.Playable.shown in
    let moved : ComesBy (shown c.self.inside.core) c.args.most (Some (c.in-Some.m, c.in-Some.times)) (shown c.make_some.new.self)
    = rw c.in-Some.is at c.in_ok-m.ensures.comes in
    let some = moved.0 in
    absurd (omega (arith, some, none))

pub returns-in-Some-clause-same : goal.returns-in-Some-clause-same
returns-in-Some-clause-same g c none =
    let shown = g.C.Playable.shown in
    let moved : ComesBy (shown c.self.inside.core) c.args.most (Some (c.in-Some.m, c.in-Some.times)) (shown c.make_some.new.self)
    = rw c.in-Some.is at c.in_ok-m.ensures.comes in
    let some = moved.0 in
    absurd (omega (arith, some, none))

pub returns-in-None-clause-made : goal.returns-in-None-clause-made
returns-in-None-clause-made g c = (omega arith, λ some. absurd (omega (arith, some)))

pub returns-in-None-clause-ended : goal.returns-in-None-clause-ended
returns-in-None-clause-ended g c none = rw c.in-None.is at c.in_ok-m.ensures.none

pub returns-in-None-clause-same : goal.returns-in-None-clause-same
returns-in-None-clause-same g c none =
    rw (← c.self.view_is) (record { boot = refl; core = rw c.in-None.is at c.in_ok-m.ensures.comes; history = refl })
