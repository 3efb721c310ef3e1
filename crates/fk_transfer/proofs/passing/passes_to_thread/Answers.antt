use Rattle.std.proofs.Common.{◌≡◌, ◌≤◌, true, false, Option, option_map, is_some, IfSome, sym, ap, ◌∙◌, subst}
use Rattle.fk_model.specs.declared.limits.TheConstants.{LAST_USER_SLOT}
use Rattle.fk_model.specs.Places.{Ptr}
use Rattle.fk_model.specs.Talks.{other_side, receiving}
use Rattle.fk_model.specs.TransferRows.{passes, takes_turn}
use Rattle.fk_store.specs.Store.Bodies.{pointer_by, thread_by}
use Rattle.fk_store.specs.Store.Paths.{path, place}
use Rattle.fk_store.specs.Store.Threads.{is_free_at}
use Rattle.fk_store.specs.Store.World.{world}
use Rattle.fk_plans.specs.Plans.Plans.{caller_by}
use Rattle.fk_transfer.proofs.Passed.{passed_free}
use Rattle.fk_transfer.proofs.passing.passes_to_thread.Goals as goal

pub handed-requires-clause-slot : goal.handed-requires-clause-slot
handed-requires-clause-slot c =
    subst (λ awaited. IfSome awaited (λ slot. slot ≤ LAST_USER_SLOT)) (sym (c.awaited_by.ensures (path c.args.store.now)))
    (c.receiving.ensures.low (ap is_some c.in-Some-receiving.is))

pub returns-in-Some-receiving-clause-outcome : goal.returns-in-Some-receiving-clause-outcome
returns-in-Some-receiving-clause-outcome c words =
    let p = path c.args.store.now in
    let free : is_free_at (world c.args.store.now) (place p c.args.peer) ≡ true = cc in
    let carried : Option Ptr = option_map (pointer_by p) c.args.carried in
    let at : c.receiving.result ≡ receiving (world c.args.store.now) (p c.args.peer.space) (other_side c.args.side) (thread_by p c.in-Some.thread.now).mode
    = rw (← c.other_side.ensures) c.receiving.ensures.receive in
    c.handed.ensures.outcome words
    ∙ ap (λ to. passes (caller_by p c.args.caller words) c.args.side (place p c.args.client) (takes_turn (place p c.args.peer) carried to)) (c.awaited_by.ensures p)
    ∙ passed_free (world c.args.store.now) (caller_by p c.args.caller words) c.args.side (place p c.args.client) (place p c.args.peer) carried _ true
    c.in-Some.ensures.thread free (ap is_some (sym at ∙ c.in-Some-receiving.is))

pub returns-in-None-clause-outcome : goal.returns-in-None-clause-outcome
returns-in-None-clause-outcome c words =
    let p = path c.args.store.now in
    let free : is_free_at (world c.args.store.now) (place p c.args.peer) ≡ true = cc in
    let carried : Option Ptr = option_map (pointer_by p) c.args.carried in
    let at : c.receiving.result ≡ receiving (world c.args.store.now) (p c.args.peer.space) (other_side c.args.side) (thread_by p c.in-Some.thread.now).mode
    = rw (← c.other_side.ensures) c.receiving.ensures.receive in
    passed_free (world c.args.store.now) (caller_by p c.args.caller words) c.args.side (place p c.args.client) (place p c.args.peer) carried _ false
    c.in-Some.ensures.thread free (ap is_some (sym at ∙ c.in-None.is))
