use Rattle.std.proofs.Common.{◌≡◌, ◌++◌, drop}
use Rattle.std.specs.List.{flat_map}
use Rattle.fk_image.specs.Format.Spelling as spells
use Rattle.fk_codec.proofs.writing.writing.write.Given as goal

abbrev pub invariant-loop-space : goal.invariant-loop-space
invariant-loop-space l = l.out.items ++ flat_map spells.space_bytes (drop l.space-index l.image.spaces) ≡ spells.spelling l.image
