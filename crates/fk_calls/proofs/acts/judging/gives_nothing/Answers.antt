use Rattle.std.proofs.Common.{◌≡◌, true, false, sym, ◌∙◌}
use Rattle.fk_model.specs.NativeRows.{is_serving_port}
use Rattle.fk_store.specs.Store.Paths.{path, place}
use Rattle.fk_store.specs.Store.World.{world}
use Rattle.fk_calls.proofs.InActs.Rows.{nothing_alone, nothing_given, nothing_held}
use Rattle.fk_calls.proofs.acts.judging.gives_nothing.Goals as goal

pub returns-then-not-is_serving-clause-outcome : goal.returns-then-not-is_serving-clause-outcome
returns-then-not-is_serving-clause-outcome c =
    nothing_held (world c.args.store.now) (place (path c.args.store.now) c.args.port) (sym c.is_serving.ensures.serving ∙ c.if-not-is_serving.true)

pub returns-then-is_handed-clause-outcome : goal.returns-then-is_handed-clause-outcome
returns-then-is_handed-clause-outcome c =
    nothing_given (world c.args.store.now) (place (path c.args.store.now) c.args.port) (place (path c.args.store.now) c.in-Some.client) true
    (sym c.is_serving.ensures.serving ∙ c.if-not-is_serving.false) (c.in-Some.ensures.client c.requires.valid.consistent)
    (sym c.is_handed.ensures ∙ c.if-is_handed.true)

pub returns-else-is_handed-clause-outcome : goal.returns-else-is_handed-clause-outcome
returns-else-is_handed-clause-outcome c =
    nothing_given (world c.args.store.now) (place (path c.args.store.now) c.args.port) (place (path c.args.store.now) c.in-Some.client) false
    (sym c.is_serving.ensures.serving ∙ c.if-not-is_serving.false) (c.in-Some.ensures.client c.requires.valid.consistent)
    (sym c.is_handed.ensures ∙ c.if-is_handed.false)

pub returns-in-None-clause-outcome : goal.returns-in-None-clause-outcome
returns-in-None-clause-outcome c =
    nothing_alone (world c.args.store.now) (place (path c.args.store.now) c.args.port)
    (sym c.is_serving.ensures.serving ∙ c.if-not-is_serving.false) (c.in-None.ensures.client c.requires.valid.consistent)
