use Rattle.fk_store.specs.Store.Paths.{path, place}
use Rattle.fk_store.specs.Store.World.{world}
use Rattle.fk_calls.proofs.InCalls.Judged.{free_there}
use Rattle.fk_calls.proofs.calls.arms.make_take.Goals as goal

pub judged-requires-clause-live : goal.judged-requires-clause-live
judged-requires-clause-live c = free_there (world c.args.store.now) (place (path c.args.store.now) c.args.who) c.requires.free
