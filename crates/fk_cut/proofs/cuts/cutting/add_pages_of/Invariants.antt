use Rattle.std.proofs.Common.{◌≡◌, ◌++◌}
use Rattle.fk_store.specs.Store.World.{world, place_of}
use Rattle.fk_cut.specs.Cuts.Shown.{below}
use Rattle.fk_cut.proofs.InCuts.Pages.{pages_up}
use Rattle.fk_cut.proofs.cuts.cutting.add_pages_of.Given as goal

abbrev pub invariant-loop-number : goal.invariant-loop-number
invariant-loop-number l =
    l.pages ≡ l.fn.pages ++ pages_up (world l.store) (place_of l.store l.who) (below l.store l.root l.who) l.number
