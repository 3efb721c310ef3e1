use Rattle.std.proofs.Common.{refl}
use Rattle.fk_waits.proofs.InWaits.Settled.{come_waited, has_key, left_there, stayed_there, turned_waited}
use Rattle.fk_waits.proofs.waits.threads.Threads.leave.Goals as goal

pub leave-requires : goal.leave-requires
leave-requires c = has_key c.args.self.now c.args.thread c.in-Some.key c.requires.list c.requires.there c.in-Some.ensures.taken

pub returns-in-Some-clause-there : goal.returns-in-Some-clause-there
returns-in-Some-clause-there c l there =
    let k = c.in-Some.ensures in
    left_there c.args.self.now c.leave.new.self c.take.new.self c.args.thread c.in-Some.key k.taken c.leave.ensures.standing c.leave.ensures.seats
    k.left (k.len refl) k.kept l there

pub returns-in-Some-clause-waited : goal.returns-in-Some-clause-waited
returns-in-Some-clause-waited c l there =
    turned_waited c.args.self.now c.args.thread c.in-Some.key c.leave.result c.in-Some.ensures.taken c.leave.ensures.waited l there

pub returns-in-None-clause-there : goal.returns-in-None-clause-there
returns-in-None-clause-there c l there =
    let k = c.in-None.ensures in stayed_there c.args.self.now c.take.new.self c.args.thread k.taken (k.same refl) l there

pub returns-in-None-clause-waited : goal.returns-in-None-clause-waited
returns-in-None-clause-waited c l there = come_waited c.args.self.now c.args.thread c.in-None.ensures.taken l there
