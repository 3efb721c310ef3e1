use Rattle.std.proofs.Common.{◌≡◌, drop}
use Rattle.std.specs.List.{flat_map}
use Rattle.fk_model.specs.Valid.{kind_there}
use Rattle.fk_model.specs.World.{apply_all}
use Rattle.fk_store.specs.Store.World.{world}
use Rattle.fk_boot.specs.FirstWorld.{aim_changes}
use Rattle.fk_boot.proofs.entries.aim_objects.Given as goal

abbrev pub invariant-loop-entry : goal.invariant-loop-entry
invariant-loop-entry l = record {
  left : apply_all (flat_map aim_changes (drop l.entry-index l.entries)) (world l.store) ≡ apply_all (flat_map aim_changes l.entries) (world l.fn.store);
  kinds : kind_there (world l.store) ≡ kind_there (world l.fn.store);
}
