use Rattle.std.proofs.Common.{◌≡◌, take, drop}
use Rattle.std.specs.List.{flat_map}
use Rattle.fk_model.specs.World.{apply_all}
use Rattle.fk_scenario.specs.Sections.Kept.{EachAfter, KeepsSpace}
use Rattle.fk_store.specs.Store.World.{world}
use Rattle.fk_boot.specs.FirstWorld.{space_changes}
use Rattle.fk_boot.specs.MadeSoFar.{HasSpaces}
use Rattle.fk_boot.proofs.entries.make_spaces.Given as goal

-- the entries that are left lead to the world of all
abbrev pub invariant-loop-entry : goal.invariant-loop-entry
invariant-loop-entry l = record {
  left : apply_all (flat_map (space_changes l.programs) (drop l.entry-index l.entries))
      (world l.store) ≡ apply_all (flat_map (space_changes l.programs) l.entries) (world l.fn.store);
  stands : HasSpaces (world l.store) (take l.entry-index l.entries);
  keeps : EachAfter (KeepsSpace l.programs) (take l.entry-index l.entries) (drop l.entry-index l.entries);
}
