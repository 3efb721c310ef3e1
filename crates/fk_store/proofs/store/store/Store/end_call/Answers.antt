use Rattle.std.proofs.Common.{[]}
use Rattle.fk_model.specs.World.Edit.{End}
use Rattle.fk_store.specs.Store.Paths.{path, place}
use Rattle.fk_store.specs.Store.World.{world}
use Rattle.fk_store.proofs.InStore.changing.GoneOn.{gone_on}
use Rattle.fk_store.proofs.store.store.Store.end_call.Goals as goal

pub returns-in-Some-clause-world : goal.returns-in-Some-clause-world
returns-in-Some-clause-world c = gone_on (world c.proceed.new.self) (world c.args.self.now) (place (path c.args.self.now) c.args.me) (path c.args.self.now)
    c.in-Some.field-0.now c.ended-after.result (End c.args.status []) c.in-Some.ensures.thread c.ended-after.ensures.talk c.ended-after.ensures.fault
    c.ended-after.ensures.stops c.proceed.ensures.world (c.ended-after.ensures.edit (path c.args.self.now))
