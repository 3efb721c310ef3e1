use Rattle.std.proofs.Common.{sym}
use Rattle.fk_store.specs.Store.World.{world, place_of}
use Rattle.fk_report.proofs.ThreadPaths.{thread-there}
use Rattle.fk_report.proofs.threads.state_of.Goals as goal

pub path_of-requires : goal.path_of-requires
path_of-requires c = thread-there (world c.args.store.now) (place_of c.args.store.now c.args.who) _ (sym c.in-Some.ensures.thread)
