use Rattle.std.proofs.Common.{◌≡◌, true, None, is_some, sym, ap, ◌∙◌}
use Rattle.fk_model.specs.Talks.{awaited, other_side, receiving}
use Rattle.fk_model.specs.TransferRows.{taken_answers}
use Rattle.fk_store.specs.Store.Bodies.{thread_by}
use Rattle.fk_store.specs.Store.Paths.{path, place}
use Rattle.fk_store.specs.Store.Threads.{is_free_at}
use Rattle.fk_store.specs.Store.World.{world}
use Rattle.fk_plans.specs.Plans.Plans.{caller_by}
use Rattle.fk_transfer.proofs.Passed.{passed_free, passed_row}
use Rattle.fk_transfer.proofs.Receivers.{is_receiver}
use Rattle.fk_transfer.proofs.passing.handing_to.Goals as goal

pub returns-in-Some-receiving-clause-outcome : goal.returns-in-Some-receiving-clause-outcome
returns-in-Some-receiving-clause-outcome c words =
    let p = path c.args.store.now in
    let w = world c.args.store.now in
    let free : is_free_at w (place p c.args.peer) ≡ true = cc in
    let at : c.receiving.result ≡ receiving w (p c.args.peer.space) (other_side c.args.side) (thread_by p c.in-Some.thread.now).mode
    = rw (← c.other_side-turn.ensures) c.receiving.ensures.receive in
    passed_row w p (caller_by p c.args.caller words) c.args.side c.other_side-turn.result c.args.client c.args.peer c.came_without.result
    (awaited (thread_by p c.in-Some.thread.now).mode) c.other_side-turn.ensures
    (c.came_without.ensures ∙ ap (λ to. taken_answers to None) (c.awaited_by.ensures p))
    ∙ passed_free w (caller_by p c.args.caller words) c.args.side (place p c.args.client) (place p c.args.peer) None _ true
    c.in-Some.ensures.thread free (ap is_some (sym at ∙ c.in-Some-receiving.is))

pub returns-in-Some-receiving-clause-receiver : goal.returns-in-Some-receiving-clause-receiver
returns-in-Some-receiving-clause-receiver c =
    let p = path c.args.store.now in
    let w = world c.args.store.now in
    let free : is_free_at w (place p c.args.peer) ≡ true = cc in
    let at : c.receiving.result ≡ receiving w (p c.args.peer.space) (other_side c.args.side) (thread_by p c.in-Some.thread.now).mode
    = rw (← c.other_side-turn.ensures) c.receiving.ensures.receive in
    is_receiver w (place p c.args.peer) p c.in-Some.thread.now (other_side c.args.side) c.in-Some.ensures.sized.0 c.in-Some.ensures.thread free _
    (sym c.in-Some-receiving.is ∙ at)
