use Rattle.std.proofs.Common.{take}
use Rattle.std.specs.List.{flat_map}
use Rattle.fk_image.specs.Image.Outs.{Marks, object_links}
use Rattle.fk_image.proofs.image.outs.mark_objects.Given as goal

abbrev pub invariant-loop-object : goal.invariant-loop-object
invariant-loop-object l = Marks l.fn.used l.used (flat_map object_links (take l.object-index l.objects))
