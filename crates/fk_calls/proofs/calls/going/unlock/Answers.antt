use Rattle.std.proofs.Common.{[]}
use Rattle.fk_calls.proofs.InCalls.Locking.{unlock_gone}
use Rattle.fk_calls.proofs.calls.going.unlock.Goals as goal

pub returns : goal.returns
returns c =
    let m = c.args.store.now in
    let n = c.sets.new.store in
    unlock_gone m n c.args.who c.mutex_at-mutex.result c.args.m c.requires.valid c.names.ensures.few c.requires.unheld c.requires.free c.mutex_at-mutex.ensures
    c.sets.ensures.paths c.requires.alone (rw c.if-not-locked.false at (c.in-Ok.ensures.locked [])) c.sets.ensures.world
