use Rattle.fk_store.specs.Store.Paths.{path, place}
use Rattle.fk_store.specs.Store.World.{world}
use Rattle.fk_changes.proofs.InThreads.SleeperLaws.{asleep_there}
use Rattle.fk_changes.proofs.threads.sleepers.asleep_on.Goals as goal

pub returns-in-Some-clause-mutex : goal.returns-in-Some-clause-mutex
returns-in-Some-clause-mutex c = rw (← c.in-Some.ensures.thread) (c.asleep_of.ensures.mutex (path c.args.store.now))

pub returns-in-Some-clause-asleep : goal.returns-in-Some-clause-asleep
returns-in-Some-clause-asleep c = asleep_there (world c.args.store.now)
    (place (path c.args.store.now) c.args.who) (path c.args.store.now) c.in-Some.thread.now c.args.cond _ c.in-Some.ensures.thread c.asleep_of.ensures.alone
