use Rattle.std.proofs.Common.{[], refl}
use Rattle.fk_calls.proofs.InCalls.Sleeping.{sleep_gone}
use Rattle.fk_calls.proofs.calls.going.sleep.Goals as goal

pub falls-requires : goal.falls-requires
falls-requires c = record { waits = rw c.requires.alone refl }

pub returns : goal.returns
returns c =
    let m = c.args.store.now in
    let n = c.falls.new.store in
    sleep_gone m n c.args.who c.mutex_at-mutex.result c.args.c c.args.m c.requires.valid c.names.ensures.few c.requires.unheld c.requires.free
    c.mutex_at-mutex.ensures c.falls.ensures.paths c.requires.alone (c.in-Ok.ensures []) (rw c.if-not-locked.false at (c.in-Ok-mutex_in.ensures.locked []))
    c.falls.ensures.world
