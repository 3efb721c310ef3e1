use Rattle.std.proofs.Common.{◌≡◌, true}
use Rattle.fk_model.specs.Reach.{words_at}
use Rattle.fk_model.specs.Talks.{other_side, receiving}
use Rattle.fk_plans.specs.Plans.Plans.{caller_by}
use Rattle.fk_store.specs.Store.Bodies.{thread_by}
use Rattle.fk_store.specs.Store.Paths.{path, place}
use Rattle.fk_store.specs.Store.Threads.{is_free_at}
use Rattle.fk_store.specs.Store.World.{world}
use Rattle.fk_transfer.proofs.Receivers.{receiver_if}
use Rattle.fk_transfer.proofs.SendLaws.{ends_if, if_moving, to_thread}
use Rattle.fk_transfer.proofs.sending.moves_to_thread.Goals as goal

pub moves_into-requires-clause-ends : goal.moves_into-requires-clause-ends
moves_into-requires-clause-ends c =
    let p = path c.args.store.now in
    let at : c.receiving-receive.result ≡ receiving (world c.args.store.now) (p c.args.peer.space) (other_side c.args.side) (thread_by p c.in-Some.thread.now).mode
    = rw (← c.other_side.ensures) c.receiving-receive.ensures.receive in
    ends_if (world c.args.store.now) (place p c.args.caller.who) (place p c.args.peer) c.args.side c.args.message.address c.args.message.count
    (thread_by p c.in-Some.thread.now) c.receiving-receive.result c.requires.calling c.in-Some.ensures.thread at

pub returns-clause-outcome : goal.returns-clause-outcome
returns-clause-outcome c words =
    let p = path c.args.store.now in
    let w = world c.args.store.now in
    let free : is_free_at w (place p c.args.peer) ≡ true = cc in
    let at : c.receiving-receive.result ≡ receiving (world c.args.store.now) (p c.args.peer.space) (other_side c.args.side) (thread_by p c.in-Some.thread.now).mode
    = rw (← c.other_side.ensures) c.receiving-receive.ensures.receive in
    if_moving c.moves_into.result (λ m goes.
    to_thread w (caller_by p c.args.caller words) c.args.side (place p c.args.client) (place p c.args.peer) c.args.message.address c.args.message.count
    (words_at w (p c.args.message.page.0) c.args.message.page.1) (thread_by p c.in-Some.thread.now) c.receiving-receive.result _
    c.in-Some.ensures.thread free at goes) (c.moves_into.ensures.outcome words)

pub returns-clause-receiver : goal.returns-clause-receiver
returns-clause-receiver c some =
    let p = path c.args.store.now in
    let w = world c.args.store.now in
    let free : is_free_at w (place p c.args.peer) ≡ true = cc in
    let at : c.receiving-receive.result ≡ receiving w (p c.args.peer.space) (other_side c.args.side) (thread_by p c.in-Some.thread.now).mode
    = rw (← c.other_side.ensures) c.receiving-receive.ensures.receive in
    receiver_if w (place p c.args.peer) p c.in-Some.thread.now (other_side c.args.side) c.in-Some.ensures.sized.0 c.in-Some.ensures.thread free
    c.receiving-receive.result at (c.moves_into.ensures.receives some)
