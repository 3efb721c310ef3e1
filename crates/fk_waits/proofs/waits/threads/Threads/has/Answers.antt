use Rattle.std.proofs.Common.{sym}
use Rattle.fk_waits.proofs.InWaits.Settled.{key_there, off_there}
use Rattle.fk_waits.proofs.waits.threads.Threads.has.Goals as goal

pub returns-in-Some : goal.returns-in-Some
returns-in-Some c l there = sym (key_there c.args.self.now c.args.thread c.in-Some.field-0 l there c.in-Some.ensures)

pub returns-in-None : goal.returns-in-None
returns-in-None c l there = sym (off_there c.args.self.now c.args.thread l there c.in-None.ensures)
