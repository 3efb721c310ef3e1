use Rattle.std.proofs.Common.{sym}
use Rattle.fk_store.specs.Store.Bodies.{thread_by}
use Rattle.fk_store.specs.Store.Paths.{path, place}
use Rattle.fk_store.specs.Store.World.{world}
use Rattle.fk_store.proofs.InStore.changing.ThreadLaws.{kind_thread}
use Rattle.fk_store.proofs.store.store.Store.fault_of.Goals as goal

pub returns-clause-kind : goal.returns-clause-kind
returns-clause-kind c some =
    let m = c.args.self.now in
    kind_thread (world m) (place (path m) c.args.who) (thread_by (path m) c.in_ok-thread.field-0.now) (sym c.in_ok-thread.ensures.thread)
