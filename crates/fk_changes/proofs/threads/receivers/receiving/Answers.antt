use Rattle.std.proofs.Common.{◌≡◌, ◌≤◌, IfSome, true, false, refl, sym, ◌∙◌, subst}
use Rattle.fk_model.specs.declared.limits.TheConstants.{LAST_USER_SLOT}
use Rattle.fk_model.specs.Talks as talks
use Rattle.fk_store.specs.Store.Bodies.{thread_by}
use Rattle.fk_store.specs.Store.Paths.{path}
use Rattle.fk_store.specs.Store.World.{world}
use Rattle.fk_changes.proofs.threads.receivers.receiving.Goals as goal

pub returns-then-not-is_handled-clause-receive : goal.returns-then-not-is_handled-clause-receive
returns-then-not-is_handled-clause-receive c =
    let p = path c.args.store.now in
    rw (← c.awaited_by.ensures p, ← c.is_handled.ensures.handled, c.if-not-is_handled.true) refl

pub returns-clause-receive : goal.returns-clause-receive
returns-clause-receive c =
    let p = path c.args.store.now in
    rw (← c.awaited_by.ensures p, ← c.is_handled.ensures.handled, c.if-not-is_handled.false) (c.receive_of.ensures p)

pub returns-clause-low : goal.returns-clause-low
returns-clause-low c there =
    let p = path c.args.store.now in
    subst (λ awaited. IfSome awaited (λ slot. slot ≤ LAST_USER_SLOT)) (c.awaited_by.ensures p) (c.is_handled.ensures.low c.if-not-is_handled.false)
