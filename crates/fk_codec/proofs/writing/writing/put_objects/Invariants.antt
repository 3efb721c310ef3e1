use Rattle.std.proofs.Common.{◌≡◌, ◌++◌, drop}
use Rattle.std.specs.List.{flat_map}
use Rattle.fk_image.specs.Format.Spelling as spells
use Rattle.fk_codec.proofs.writing.writing.put_objects.Given as goal

abbrev pub invariant-loop-object : goal.invariant-loop-object
invariant-loop-object l = l.out.items ++ flat_map spells.object_bytes (drop l.object-index l.objects) ≡ l.fn.out.items ++ flat_map spells.object_bytes l.objects
