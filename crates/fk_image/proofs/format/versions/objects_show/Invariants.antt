use Rattle.std.proofs.Common.{◌≡◌, drop}
use Rattle.std.specs.List.{list_any}
use Rattle.fk_image.specs.Format.Versions as versions
use Rattle.fk_image.proofs.format.versions.objects_show.Given as goal

abbrev pub invariant-loop-object : goal.invariant-loop-object
invariant-loop-object l = list_any versions.object_shows (drop l.object-index l.objects) ≡ list_any versions.object_shows l.objects
