use Rattle.std.proofs.Common.{◌∙◌}
use Rattle.fk_store.specs.Store.Bodies.{body_by}
use Rattle.fk_store.specs.Store.Paths.{path}
use Rattle.fk_store.specs.Store.World.{world, place_of}
use Rattle.fk_cut.proofs.InClosing.Leads.{leads_off, leads_on}
use Rattle.fk_cut.proofs.closing.led.leads_in_from.Goals as goal

pub returns-then-not-points_to : goal.returns-then-not-points_to
returns-then-not-points_to c =
    let m = c.args.store.now in
    leads_off (place_of m c.args.root) (place_of m c.args.from) (place_of m c.args.target) (world m) (body_by (path m) c.in-Some.body.now)
    c.in-Some.ensures.body (c.if-not-points_to.ensures (path m) c.requires.target)

pub returns-else-not-points_to : goal.returns-else-not-points_to
returns-else-not-points_to c =
    let m = c.args.store.now in
    c.all_three.ensures ∙ leads_on (place_of m c.args.root) (place_of m c.args.from) (place_of m c.args.target) (world m) (body_by (path m) c.in-Some.body.now)
    c.in-Some.ensures.body c.is_scratch-scratch.result c.is_inside.result (c.if-not-points_to.ensures (path m) c.requires.target)
    c.is_scratch-scratch.ensures c.is_inside.ensures
