use Rattle.fk_store.specs.Store.Paths.{path, place}
use Rattle.fk_store.specs.Store.World.{world}
use Rattle.fk_turns.proofs.InWhys.Hearing.{own_on}
use Rattle.fk_turns.proofs.whys.hearing.own_talk.Goals as goal

pub returns-in-Some : goal.returns-in-Some
returns-in-Some c =
    let m = c.args.store.now in
    own_on (world m) (path m) (place (path m) c.args.who) c.args.thread.now c.in-Some.talk c.requires.there c.in-Some.is
