use Rattle.std.proofs.Common.{◌≡◌, drop, map}
use Rattle.std.specs.List.{AllByRecursion}
use Rattle.fk_store.specs.Store.Paths.{path}
use Rattle.fk_store.specs.Store.World.{world, place_of}
use Rattle.fk_cut.specs.Closing.Places.{first_at}
use Rattle.fk_cut.specs.Closing.Walks.{IsPart}
use Rattle.fk_cut.proofs.closing.closing.first_open.Given as goal

-- the first of those that are left is the first of all
abbrev pub invariant-loop-who : goal.invariant-loop-who
invariant-loop-who l = record {
  parts : AllByRecursion (IsPart l.store l.root) (drop l.who-index l.objects);
  first : first_at (world l.store) (path l.store l.root.space) l.root.slot (map (place_of l.store) (drop l.who-index l.objects))
      ≡ first_at (world l.store) (path l.store l.root.space) l.root.slot (map (place_of l.store) l.objects);
}
