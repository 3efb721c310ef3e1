use Rattle.std.proofs.Common.{◌≡◌, refl, sym, ap, subst, ◌∙◌}
use Rattle.fk_model.specs.Moves.{step, stepped, GoesAllowed}
use Rattle.fk_store.specs.Store.Paths.{path, place}
use Rattle.fk_store.specs.Store.World.{world}
use Rattle.fk_calls.specs.Acts.Acts.{words_of}
use Rattle.fk_calls.proofs.InActs.Allowed.{allowed_iff}
use Rattle.fk_calls.proofs.InActs.Made.{act-ending, act-heard}
use Rattle.fk_calls.proofs.acts.moves.attempt.Goals as goal

pub returns-clause-ready : goal.returns-clause-ready
returns-clause-ready c some =
    let m = c.args.store.now in
    let words = words_of c.args.ask.now in
    subst (GoesAllowed (world m) (place (path m) c.args.m.now.who)) c.in_ok-act.ensures.outcome
    ((allowed_iff m c.args.m.now.who words c.in_ok-act.act c.in_ok-act.ensures.fits).0 (sym c.is_allowed.ensures ∙ c.if-not-is_allowed.false))

pub returns-clause-step : goal.returns-clause-step
unfolding step
returns-clause-step c =
    let m = c.args.store.now in
    ap (stepped (world m)) (sym c.in_ok-act.ensures.outcome) ∙ rw (c.make.ensures.world, c.make.ensures.said, c.given.ensures.words) refl

pub returns-clause-clients : goal.returns-clause-clients
returns-clause-clients c some =
    let m = c.args.store.now in
    let words = words_of c.args.ask.now in
    rw (c.make.ensures.world, c.given.ensures.words) (act-ending m c.args.m.now.who words c.in_ok-act.act c.in_ok-act.ensures.fits)

pub returns-clause-heard : goal.returns-clause-heard
returns-clause-heard c =
    act-heard (path c.args.store.now) (path c.make.new.store) c.args.m.now.who c.in_ok-act.act c.make.result c.make.ensures.said c.make.ensures.port
    c.own_path.ensures
