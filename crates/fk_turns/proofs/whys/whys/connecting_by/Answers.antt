use Rattle.std.proofs.Common.{false, [], refl}
use Rattle.fk_changes.specs.Readers.Callers.{caller_by}
use Rattle.fk_store.specs.Store.Paths.{path, place}
use Rattle.fk_store.specs.Store.World.{world}
use Rattle.fk_turns.proofs.InWhys.Reasons.{connects}
use Rattle.fk_turns.proofs.whys.whys.connecting_by.Goals as goal

pub returns-in-Ok : goal.returns-in-Ok
returns-in-Ok c =
    let m = c.args.store.now in
    connects (world m) (place (path m) c.args.who) (place (path m) c.in-Some.key)
    (caller_by (path m) (record { who = c.args.who; is_porter = false }) []) c.args.h _ refl refl c.requires.alone c.requires.stage
    (c.in-Some.ensures (path m)) (c.in-Ok.ensures.handle [])
