use Rattle.std.proofs.Common.{option_map, sym}
use Rattle.fk_model.specs.World.Edit.{SetTaker}
use Rattle.fk_store.specs.Store.Bodies.{fault_by, peer_by}
use Rattle.fk_store.specs.Store.Paths.{path, place}
use Rattle.fk_store.specs.Store.World.{world}
use Rattle.fk_store.proofs.InStore.changing.EditLaws.{taker_is_fault, taker_none}
use Rattle.fk_store.proofs.store.store.Store.set_taker.Goals as goal

pub put_fault-requires-clause-named : goal.put_fault-requires-clause-named
put_fault-requires-clause-named c = (c.in-Some.ensures.named.0, c.requires.taker)

pub returns-in-Some-clause-world : goal.returns-in-Some-clause-world
returns-in-Some-clause-world c =
    let m = c.args.self.now in
    let taker = option_map (peer_by (path m)) c.args.taker in
    c.put_fault.ensures.edits (SetTaker taker)
    (taker_is_fault (world m) (place (path m) c.args.who) (fault_by (path m) c.in-Some.fault) taker (sym c.in-Some.ensures.fault))

pub returns-in_default-clause-world : goal.returns-in_default-clause-world
returns-in_default-clause-world c =
    let m = c.args.self.now in
    taker_none (world m) (place (path m) c.args.who) (option_map (peer_by (path m)) c.args.taker) (sym c.in_default.ensures.fault)
