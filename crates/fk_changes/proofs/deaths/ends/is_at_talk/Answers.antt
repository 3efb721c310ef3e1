use Rattle.fk_store.specs.Store.Paths.{path}
use Rattle.fk_changes.proofs.deaths.ends.is_at_talk.Goals as goal

pub returns-in-Some : goal.returns-in-Some
returns-in-Some c = rw (← c.in-Some.ensures.thread) (c.is_talking.ensures (path c.args.store.now))
