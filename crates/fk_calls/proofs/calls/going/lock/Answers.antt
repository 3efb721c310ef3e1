use Rattle.std.proofs.Common.{[], refl, sym}
use Rattle.fk_calls.proofs.InCalls.Locking.{lock_gone, has_waited}
use Rattle.fk_calls.proofs.calls.going.lock.Goals as goal

pub returns : goal.returns
returns c =
    let m = c.args.store.now in
    let n = c.sets.new.store in
    lock_gone m n c.args.who c.mutex_at-mutex.result c.args.m c.requires.valid c.names.ensures.few c.requires.unheld c.requires.free c.mutex_at-mutex.ensures
    c.sets.ensures.paths c.requires.alone (rw c.if-locked.false at (c.in-Ok.ensures.locked [])) c.sets.ensures.world

pub returns-then-locked : goal.returns-then-locked
returns-then-locked c =
    let m = c.args.store.now in
    (refl, has_waited m c.args.who c.args.m c.requires.free c.requires.alone (sym (rw c.if-locked.true at (c.in-Ok.ensures.locked []))))
