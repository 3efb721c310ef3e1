use Rattle.std.proofs.Common.{subst, sym}
use Rattle.std.specs.List.{AllByRecursion}
use Rattle.fk_store.specs.Store.Names.{at}
use Rattle.fk_store.specs.Store.Paths.{path}
use Rattle.fk_cut.specs.Closing.Walks.{IsPart}
use Rattle.fk_cut.proofs.InClosing.Walked.{are_parts}
use Rattle.fk_cut.proofs.InClosing.Openings.{open_first}
use Rattle.fk_cut.proofs.closing.closing.closed.Goals as goal

pub first_open-requires-clause-parts : goal.first_open-requires-clause-parts
first_open-requires-clause-parts c =
    let m = c.args.store.now in
    let root = at c.args.n c.args.slot in
    subst (AllByRecursion (IsPart m root)) (sym c.as_slice.ensures) (are_parts m root c.in_ok-objects.objects c.requires c.in_ok-objects.ensures)

pub returns : goal.returns
returns c = open_first c.args.store.now (path c.args.store.now c.args.n) c.args.slot c.in_ok-objects.objects c.as_slice.result.now c.first_open.result
    c.as_slice.ensures c.in_ok-objects.ensures c.first_open.ensures
