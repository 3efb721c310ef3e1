use Rattle.std.proofs.Common.{[]}
use Rattle.fk_calls.proofs.InCalls.Locking.{may_lock}
use Rattle.fk_calls.proofs.calls.going.is_open.Goals as goal

pub returns : goal.returns
returns c =
    may_lock c.args.store.now c.args.who c.args.m c.requires.unheld c.requires.free c.requires.alone c.in-Ok.locked (c.in-Ok.ensures.locked [])
