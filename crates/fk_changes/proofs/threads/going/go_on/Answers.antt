use Rattle.fk_store.specs.Store.Paths.{path, place}
use Rattle.fk_store.specs.Store.World.{world}
use Rattle.fk_store.proofs.InStore.changing.GoneOn.{gone_on}
use Rattle.fk_changes.proofs.threads.going.go_on.Goals as goal

pub returns-clause-edits : goal.returns-clause-edits
returns-clause-edits c e is = gone_on (world c.proceed.new.self) (world c.args.store.now) (place (path c.args.store.now) c.args.who) (path c.args.store.now)
    c.args.was c.args.thread e c.requires.there c.requires.talk c.requires.fault c.requires.stops c.proceed.ensures.world is
