use Rattle.fk_waits.proofs.InWaits.Settled.{first_there}
use Rattle.fk_waits.proofs.waits.threads.Threads.first.Goals as goal

pub first-requires : goal.first-requires
first-requires c = record { list = c.requires.there.list; standing = c.requires.there.standing }

pub returns : goal.returns
returns c l there = first_there c.args.self.now c.args.cause c.first.result c.first.ensures l there
