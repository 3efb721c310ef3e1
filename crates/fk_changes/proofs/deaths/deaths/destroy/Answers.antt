use Rattle.fk_store.specs.Store.Paths.{path, place}
use Rattle.fk_store.specs.Store.World.{world}
use Rattle.fk_changes.proofs.InDeaths.Endings.{all_killed, same_residents}
use Rattle.fk_changes.proofs.deaths.deaths.destroy.Goals as goal

pub kill-requires-clause-empty : goal.kill-requires-clause-empty
kill-requires-clause-empty c = rw c.end_with.ensures.paths (same_residents (world c.args.store.now) (world c.end_with.new.store)
    (place (path c.args.store.now) c.args.who) c.end_with.ensures.kinds c.requires.empty)

pub returns-clause-world : goal.returns-clause-world
returns-clause-world c = rw (c.kill.ensures.world, c.end_with.ensures.paths)
    (all_killed (world c.args.store.now) (world c.end_with.new.store) (place (path c.args.store.now) c.args.who) c.end_with.ensures.ends)
