use Rattle.std.proofs.Common.{◌≡◌, refl, sym, ap, subst, ◌∙◌}
use Rattle.fk_model.specs.Moves.{step, stepped, GoesAllowed}
use Rattle.fk_model.specs.Moves as machine
use Rattle.fk_store.specs.Store.Paths.{path, place}
use Rattle.fk_store.specs.Store.World.{world}
use Rattle.fk_plans.specs.Endings.Clients.{IsEnding}
use Rattle.std.specs.Prelude.{None}
use Rattle.fk_calls.specs.Acts.Acts.{words_of}
use Rattle.fk_calls.proofs.InActs.Allowed.{allowed_iff}
use Rattle.fk_calls.proofs.InActs.Made.{act-ending, act-heard}
use Rattle.fk_calls.proofs.acts.moves.foretell.Goals as goal

pub returns-clause-ready : goal.returns-clause-ready
returns-clause-ready c some =
    let m = c.args.store.now in
    let words = words_of c.args.ask.now in
    subst (GoesAllowed (world m) (place (path m) c.args.m.now.who)) c.in_ok-act.ensures.outcome
    ((allowed_iff m c.args.m.now.who words c.in_ok-act.act c.in_ok-act.ensures.fits).0 (sym c.is_allowed.ensures ∙ c.if-not-is_allowed.false))

pub returns-clause-said : goal.returns-clause-said
unfolding step
returns-clause-said c =
    let m = c.args.store.now in
    ap (λ o. (stepped (world m) o).said) (sym c.in_ok-act.ensures.outcome) ∙ sym (c.said_of.ensures.said (path m))

pub returns-clause-clients : goal.returns-clause-clients
unfolding step
returns-clause-clients c some =
    let m = c.args.store.now in
    let words = words_of c.args.ask.now in
    subst (λ o. IsEnding (world m) (stepped (world m) o).world None) c.in_ok-act.ensures.outcome
    (act-ending m c.args.m.now.who words c.in_ok-act.act c.in_ok-act.ensures.fits)

pub returns-clause-heard : goal.returns-clause-heard
returns-clause-heard c =
    act-heard (path c.args.store.now) (path c.args.store.now) c.args.m.now.who c.in_ok-act.act c.said_of.result
    (c.said_of.ensures.said (path c.args.store.now)) c.said_of.ensures.port c.own_path.ensures
