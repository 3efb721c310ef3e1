use Rattle.std.proofs.Common.{refl, sym, ap, ◌∙◌}
use Rattle.fk_store.specs.Store.Bodies.{thread_by}
use Rattle.fk_store.specs.Store.Paths.{path, place}
use Rattle.fk_store.specs.Store.World.{world}
use Rattle.fk_calls.proofs.InActs.Rows.{accepts_connecting, accepts_held, accepts_parked, connects_free, taken_parked}
use Rattle.fk_model.specs.NativeRows.{takes_up}
use Rattle.fk_calls.proofs.acts.judging.takes.Goals as goal

pub returns-in_default-clause-outcome : goal.returns-in_default-clause-outcome
returns-in_default-clause-outcome c words =
    accepts_held (world c.args.store.now) (place (path c.args.store.now) c.args.port) (place (path c.args.store.now) c.args.who) c.in_default.ensures.held

pub returns-then-connects_here-clause-outcome : goal.returns-then-connects_here-clause-outcome
returns-then-connects_here-clause-outcome c words =
    let p = path c.args.store.now in
    accepts_connecting (world c.args.store.now) (place p c.args.port) (place p c.args.who) (thread_by p c.in-Some.thread.now)
    c.in-Some.ensures.there (c.in-Some.ensures.free refl) (sym c.connects_here.ensures ∙ c.if-connects_here.true)

pub returns-in-Some-parked_here-clause-outcome : goal.returns-in-Some-parked_here-clause-outcome
returns-in-Some-parked_here-clause-outcome c words =
    let p = path c.args.store.now in
    ap (takes_up (place p c.args.port) (place p c.args.who)) (c.in-Some-parked_here.ensures p c.requires.apart)
    ∙ accepts_parked (world c.args.store.now) (place p c.args.port) (place p c.args.who) (thread_by p c.in-Some.thread.now)
    c.in-Some.ensures.there (c.in-Some.ensures.free refl) (sym c.connects_here.ensures ∙ c.if-connects_here.false)
