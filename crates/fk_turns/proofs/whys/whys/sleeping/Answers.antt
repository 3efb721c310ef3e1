use Rattle.fk_store.specs.Store.Paths.{path, place}
use Rattle.fk_store.specs.Store.World.{world}
use Rattle.fk_turns.proofs.InWhys.Reasons.{sleeps}
use Rattle.fk_turns.proofs.whys.whys.sleeping.Goals as goal

pub returns-then-is_mutex : goal.returns-then-is_mutex
returns-then-is_mutex c =
    let m = c.args.store.now in
    let cond = rw c.if-is_cond.true at c.is_cond.ensures in
    let mutex = rw c.if-is_mutex.true at c.is_mutex.ensures in
    sleeps (world m) (place (path m) c.args.who) c.args.cond c.args.mutex c.requires cond mutex
