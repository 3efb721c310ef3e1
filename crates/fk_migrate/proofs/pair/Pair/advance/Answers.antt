use Rattle.std.proofs.Common.{sym, subst}
use Rattle.std.proofs.lemmas.Result.{err_from_is_err_and}
use Rattle.fk_migrate.specs.Pairs.{shown, Shown, GoesOn, IsSame, IsSomeRun, IsReady}
use Rattle.fk_migrate.proofs.Stepping.{goes_so, same_of}
use Rattle.fk_migrate.proofs.pair.Pair.advance.Goals as goal

pub make-requires-clause-run : goal.make-requires-clause-run
make-requires-clause-run g c = subst (λ (s : Shown). IsSomeRun s) (sym c.make_room.ensures.same) c.requires.run

pub make-requires-clause-ready : goal.make-requires-clause-ready
make-requires-clause-ready g c = subst (λ (s : Shown). IsReady s c.args.e.now) (sym c.make_room.ensures.same) c.requires.ready

pub count-places-requires-clause-run : goal.count-places-requires-clause-run
count-places-requires-clause-run g c = subst (λ (s : Shown). IsSomeRun s) (sym c.make_room.ensures.same) c.requires.run

pub note-requires : goal.note-requires
note-requires g c = rw c.make.ensures.events c.in_ok-make_room.ensures.room

pub returns-clause-goes : goal.returns-clause-goes
returns-clause-goes g c =
    subst (λ (s : Shown). GoesOn s c.args.e.now (shown c.note.new.self)) c.make_room.ensures.same
    (goes_so _ _ _ c.args.e.now c.count-places.result (λ i. (c.make.ensures.events i).items) c.in_ok-make.ensures.leads c.count-places.ensures c.note.ensures)

pub returns-in_err-make_room-clause-lacking : goal.returns-in_err-make_room-clause-lacking
returns-in_err-make_room-clause-lacking g c =
    let p = err_from_is_err_and c.from_residual.result c.from_residual.ensures.1 in rw p.1 (same_of _ _ c.make_room.ensures.same)

pub returns-in_err-make-clause-lacking : goal.returns-in_err-make-clause-lacking
returns-in_err-make-clause-lacking g c =
    let p = err_from_is_err_and c.from_residual-in_err-make.result c.from_residual-in_err-make.ensures.1 in rw p.1
    (subst (λ (s : Shown). IsSame s (shown c.make.new.self)) c.make_room.ensures.same c.in_err-make.ensures.lacking)
