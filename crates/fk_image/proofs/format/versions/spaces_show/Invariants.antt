use Rattle.std.proofs.Common.{◌≡◌, drop}
use Rattle.std.specs.List.{list_any}
use Rattle.fk_image.specs.Format.Versions as versions
use Rattle.fk_image.proofs.format.versions.spaces_show.Given as goal

abbrev pub invariant-loop-space : goal.invariant-loop-space
invariant-loop-space l = list_any versions.space_shows (drop l.space-index l.spaces) ≡ list_any versions.space_shows l.spaces
