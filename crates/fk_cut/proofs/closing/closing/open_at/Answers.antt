use Rattle.fk_store.specs.Store.Paths.{path}
use Rattle.fk_store.specs.Store.World.{world, place_of}
use Rattle.fk_cut.proofs.InClosing.Openings.{part_path, no_place, a_place}
use Rattle.fk_cut.proofs.closing.closing.open_at.Goals as goal

pub returns-in-None : goal.returns-in-None
returns-in-None c =
    let m = c.args.store.now in
    let part = part_path m c.args.root c.args.who c.requires.part in
    no_place (world m) (path m c.args.root.space) c.args.root.slot (place_of m c.args.who) part.0 part.1 (c.in-None.ensures part.0 part.1)

pub returns-in_ok-path-in-Some : goal.returns-in_ok-path-in-Some
returns-in_ok-path-in-Some c =
    let m = c.args.store.now in
    let part = part_path m c.args.root c.args.who c.requires.part in
    a_place (world m) (path m c.args.root.space) c.args.root.slot (place_of m c.args.who) part.0 c.in_ok-path-in-Some.path c.in-Some.field part.1
    (c.in-Some.ensures part.0 part.1) (c.in_ok-path-in-Some.ensures part.0 part.1)
