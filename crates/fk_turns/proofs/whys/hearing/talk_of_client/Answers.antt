use Rattle.fk_store.specs.Store.Paths.{path, place}
use Rattle.fk_store.specs.Store.World.{world}
use Rattle.fk_turns.proofs.InWhys.Hearing.{served_on}
use Rattle.fk_turns.proofs.whys.hearing.talk_of_client.Goals as goal

pub returns-in-Some-talk : goal.returns-in-Some-talk
returns-in-Some-talk c =
    let m = c.args.store.now in
    served_on (world m) (path m) (place (path m) c.args.who) (place (path m) c.args.client) c.args.thread.now c.in-Some.other.now c.in-Some-talk.talk
    c.requires.served c.in-Some.ensures.thread c.in-Some-talk.is
