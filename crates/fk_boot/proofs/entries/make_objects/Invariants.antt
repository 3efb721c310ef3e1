use Rattle.std.proofs.Common.{◌≡◌, take, drop}
use Rattle.std.specs.List.{flat_map}
use Rattle.fk_model.specs.World.{apply_all}
use Rattle.fk_scenario.specs.Sections.Kept.{EachAfter, KeepsObject}
use Rattle.fk_store.specs.Store.World.{world}
use Rattle.fk_boot.specs.FirstWorld.{object_changes}
use Rattle.fk_boot.specs.MadeSoFar.{HasObjects}
use Rattle.fk_boot.proofs.entries.make_objects.Given as goal

abbrev pub invariant-loop-entry : goal.invariant-loop-entry
invariant-loop-entry l = record {
  left : apply_all (flat_map (object_changes l.ports) (drop l.entry-index l.entries)) (world l.store)
      ≡ apply_all (flat_map (object_changes l.ports) l.entries) (world l.fn.store);
  stands : HasObjects (world l.store) l.spaces (take l.entry-index l.entries);
  keeps : EachAfter (KeepsObject l.spaces) (take l.entry-index l.entries) (drop l.entry-index l.entries);
}
