use Rattle.fk_store.specs.Store.Paths.{path, place}
use Rattle.fk_store.specs.Store.World.{world}
use Rattle.fk_turns.proofs.InWhys.Reasons.{known_why}
use Rattle.fk_turns.proofs.whys.whys.reason.Goals as goal

pub returns-in-Some : goal.returns-in-Some
returns-in-Some c unready =
    let m = c.args.store.now in known_why (world m) (path m) (place (path m) c.args.who) c.why_not.result c.why_not.ensures unready
