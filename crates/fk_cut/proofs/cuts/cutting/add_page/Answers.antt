use Rattle.std.proofs.Common.{ap, sym, ◌∙◌}
use Rattle.fk_store.specs.Store.World.{world, place_of}
use Rattle.fk_cut.specs.Cuts.Shown.{below}
use Rattle.fk_cut.proofs.InCuts.Shows.{part_below}
use Rattle.fk_cut.proofs.InCuts.Pages.{page_when}
use Rattle.fk_cut.proofs.cuts.cutting.add_page.Goals as goal

pub returns-in_ok-push : goal.returns-in_ok-push
returns-in_ok-push c =
    let m = c.args.store.now in
    let q = below m c.args.root c.args.who in
    page_when (world m) (place_of m c.args.who) q c.in_ok-path.path c.args.page c.in-Some.words.now c.args.pages.now c.push.new.self
    (ap (λ s. (world m).page s c.args.page) (sym c.requires.space) ∙ sym c.in-Some.ensures)
    (c.in_ok-path.ensures q (part_below m c.args.root c.args.who c.requires.part)) c.in_ok-push.ensures.ok
