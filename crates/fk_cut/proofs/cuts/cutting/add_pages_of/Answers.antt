use Rattle.std.proofs.Common.{arith}
use Rattle.fk_store.specs.Store.World.{world, place_of}
use Rattle.fk_cut.specs.Cuts.Shown.{below}
use Rattle.fk_cut.proofs.InCuts.Pages.{pages_begin, pages_next, pages_end}
use Rattle.fk_cut.proofs.cuts.cutting.add_pages_of.Goals as goal

pub loop-number-init : goal.loop-number-init
loop-number-init c =
    let m = c.args.store.now in
    pages_begin (world m) (place_of m c.args.who) (below m c.args.root c.args.who) c.args.pages.now

pub loop-number-preserved : goal.loop-number-preserved
loop-number-preserved c =
    let m = c.args.store.now in
    pages_next (world m) (place_of m c.args.who) (below m c.args.root c.args.who) c.loop-number.number c.args.pages.now c.loop-number.pages
    c.add_page.new.pages c.loop-number.invariant c.in_ok-add_page.ensures

pub returns : goal.returns
returns c = pages_end c.args.store.now c.args.root c.args.who c.loop-number.number c.args.pages.now c.loop-number.pages c.requires.part (omega arith)
    c.loop-number.invariant
