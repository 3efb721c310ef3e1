use Rattle.std.proofs.Common.{subst, sym}
use Rattle.std.specs.List.{AllByRecursion}
use Rattle.fk_store.specs.Store.Names.{at}
use Rattle.fk_cut.specs.Closing.Walks.{IsPart}
use Rattle.fk_cut.proofs.InClosing.Walked.{are_parts}
use Rattle.fk_cut.proofs.InCuts.Pages.{whole_cut}
use Rattle.fk_cut.proofs.cuts.cutting.cut.Goals as goal

pub shown_all-requires-clause-parts : goal.shown_all-requires-clause-parts
shown_all-requires-clause-parts c =
    let m = c.args.store.now in
    let root = at c.args.n c.args.slot in
    subst (AllByRecursion (IsPart m root)) (sym c.as_slice.ensures) (are_parts m root c.in_ok-objects.objects c.requires c.in_ok-objects.ensures)

pub returns : goal.returns
returns c = whole_cut c.args.store.now (at c.args.n c.args.slot) c.in_ok-objects.objects c.as_slice.result.now c.shown_all.result c.as_slice.ensures
    c.in_ok-objects.ensures c.shown_all.ensures.objects c.shown_all.ensures.pages
