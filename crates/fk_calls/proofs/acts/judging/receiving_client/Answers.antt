use Rattle.std.proofs.Common.{◌≡◌, Bool, true, false, refl, sym, ◌∙◌}
use Rattle.fk_store.specs.Store.Bodies.{thread_by}
use Rattle.fk_store.specs.Store.Paths.{path, place}
use Rattle.fk_store.specs.Store.World.{world}
use Rattle.fk_calls.proofs.InActs.Rows.{client_away, client_receives, client_unfree, client_unturned, receiver}
use Rattle.fk_calls.proofs.acts.judging.receiving_client.Goals as goal

pub returns-in_default-free_thread-clause-client : goal.returns-in_default-free_thread-clause-client
returns-in_default-free_thread-clause-client c go =
    let p = path c.args.store.now in
    client_unfree (world c.args.store.now) (place p c.args.port) go (sym c.is_serving.ensures.serving ∙ c.if-not-is_serving.false)
    (place p c.in-Some.client) (c.in-Some.ensures.client c.requires.valid.consistent) c.in_default-free_thread.ensures.held

pub returns-then-not-has_turn-clause-client : goal.returns-then-not-has_turn-clause-client
returns-then-not-has_turn-clause-client c go =
    let p = path c.args.store.now in
    client_unturned (world c.args.store.now) (place p c.args.port) go (sym c.is_serving.ensures.serving ∙ c.if-not-is_serving.false)
    (place p c.in-Some.client) (c.in-Some.ensures.client c.requires.valid.consistent) (thread_by p c.in-Some-free_thread.thread.now)
    c.in-Some-free_thread.ensures.there (c.in-Some-free_thread.ensures.free refl) (sym (c.has_turn.ensures p) ∙ c.if-not-has_turn.true)

pub returns-in-Some-receiving-clause-client : goal.returns-in-Some-receiving-clause-client
returns-in-Some-receiving-clause-client c go =
    let p = path c.args.store.now in
    client_receives (world c.args.store.now) (place p c.args.port) go (sym c.is_serving.ensures.serving ∙ c.if-not-is_serving.false)
    (place p c.in-Some.client) (c.in-Some.ensures.client c.requires.valid.consistent) (thread_by p c.in-Some-free_thread.thread.now)
    c.in-Some-free_thread.ensures.there (c.in-Some-free_thread.ensures.free refl) c.in-Some-receiving.receive
    (sym (c.has_turn.ensures p) ∙ c.if-not-has_turn.false) c.in-Some-receiving.ensures.receive

pub returns-in-Some-receiving-clause-receives : goal.returns-in-Some-receiving-clause-receives
returns-in-Some-receiving-clause-receives c =
    let p = path c.args.store.now in
    receiver (world c.args.store.now) (place p c.in-Some.client) (thread_by p c.in-Some-free_thread.thread.now) c.in-Some-receiving.receive
    c.in-Some-free_thread.ensures.there (c.in-Some-free_thread.ensures.free refl) c.in-Some-receiving.ensures.receive

pub returns-in-None-clause-client : goal.returns-in-None-clause-client
returns-in-None-clause-client c go =
    let p = path c.args.store.now in
    client_away (world c.args.store.now) (place p c.args.port) go (sym c.is_serving.ensures.serving ∙ c.if-not-is_serving.false)
    (place p c.in-Some.client) (c.in-Some.ensures.client c.requires.valid.consistent) (thread_by p c.in-Some-free_thread.thread.now)
    c.in-Some-free_thread.ensures.there (c.in-Some-free_thread.ensures.free refl)
    (sym (c.has_turn.ensures p) ∙ c.if-not-has_turn.false) c.in-None.ensures.receive
