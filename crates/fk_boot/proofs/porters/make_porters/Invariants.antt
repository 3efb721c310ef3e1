use Rattle.std.proofs.Common.{◌≡◌, drop}
use Rattle.std.specs.List.{flat_map}
use Rattle.fk_model.specs.World.{apply_all}
use Rattle.fk_store.specs.Store.World.{world}
use Rattle.fk_boot.specs.FirstWorld.{porter_changes}
use Rattle.fk_boot.specs.MadeSoFar.{AreNestable}
use Rattle.fk_boot.proofs.porters.make_porters.Given as goal

abbrev pub invariant-loop-entry : goal.invariant-loop-entry
invariant-loop-entry l = record {
  left : apply_all (flat_map porter_changes (drop l.entry-index l.entries)) (world l.store) ≡ apply_all (flat_map porter_changes l.entries) (world l.fn.store);
  nests : AreNestable (world l.store) (drop l.entry-index l.entries);
}
