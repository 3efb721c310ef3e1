use Rattle.fk_store.specs.Store.Paths.{path}
use Rattle.fk_cut.specs.Cuts.Shown.{below}
use Rattle.fk_cut.proofs.InCuts.Shows.{object_when, part_below}
use Rattle.fk_cut.proofs.cuts.cutting.object_of.Goals as goal

pub returns : goal.returns
returns c =
    let m = c.args.store.now in
    let q = below m c.args.root c.args.who in
    let is = part_below m c.args.root c.args.who c.requires.part in
    object_when m c.args.root c.args.who q c.in_ok-path-in-Some.path c.in-Some.body.now c.record_of-words.result c.in_ok-ptrs-in-Some.ptrs
    c.in-Some.ensures.body is (c.in_ok-path-in-Some.ensures q is) (c.record_of-words.ensures (path m)) (c.in_ok-ptrs-in-Some.ensures q is)
