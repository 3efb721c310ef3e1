use Rattle.std.proofs.Common.{◌≡◌, drop, take, map}
use Rattle.std.specs.List.{AllByRecursion, flat_map}
use Rattle.fk_cut.specs.Closing.Walks.{IsPart}
use Rattle.fk_cut.proofs.InCuts.Pages.{object_here, pages_here}
use Rattle.fk_cut.proofs.cuts.cutting.shown_all.Given as goal

abbrev pub invariant-loop-who : goal.invariant-loop-who
invariant-loop-who l = record {
  parts : AllByRecursion (IsPart l.store l.root) (drop l.who-index l.whos);
  objects : l.objects ≡ map (object_here l.store l.root) (take l.who-index l.whos);
  pages : l.pages ≡ flat_map (pages_here l.store l.root) (take l.who-index l.whos);
}
