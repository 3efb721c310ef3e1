use Rattle.fk_model.specs.Cut.{ports_of}
use Rattle.fk_store.specs.Store.Paths.{path}
use Rattle.fk_store.specs.Store.World.{world, place_of}
use Rattle.fk_cut.proofs.InCuts.Shows.{shown_inside}
use Rattle.fk_cut.proofs.cuts.shown.shown_object.Goals as goal

pub returns-then-is_inside : goal.returns-then-is_inside
returns-then-is_inside c =
    let m = c.args.store.now in
    shown_inside (ports_of (world m) (path m c.args.root.space) c.args.root.slot) (path m c.args.root.space) c.args.root.slot (place_of m c.args.who)
    c.in_ok-path.path (λ q is. c.in_ok-path.ensures q is) c.if-is_inside.ensures
