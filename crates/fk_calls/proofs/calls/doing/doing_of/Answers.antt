use Rattle.std.proofs.Common.{sym}
use Rattle.fk_store.specs.Store.Paths.{path, place}
use Rattle.fk_store.specs.Store.World.{world}
use Rattle.fk_calls.proofs.InCalls.Doings.{idle_nobody}
use Rattle.fk_calls.proofs.calls.doing.doing_of.Goals as goal

pub returns-in-None : goal.returns-in-None
returns-in-None c pick = idle_nobody _ _ pick (sym c.in-None.ensures.thread)

pub returns-in-Some : goal.returns-in-Some
returns-in-Some c =
    let m = c.args.store.now in
    c.next_of.ensures (world m) (place (path m) c.args.who) (path m) c.in-Some.ensures.thread
