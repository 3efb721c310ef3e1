use Rattle.fk_store.specs.Store.Paths.{path, place}
use Rattle.fk_store.specs.Store.World.{world}
use Rattle.fk_turns.proofs.InWhys.Reasons.{locks}
use Rattle.fk_turns.proofs.whys.whys.locking.Goals as goal

pub returns-in-Some : goal.returns-in-Some
returns-in-Some c =
    let m = c.args.store.now in locks (world m) (place (path m) c.args.who) c.args.mutex c.in-Some.slot c.requires c.in-Some.ensures
