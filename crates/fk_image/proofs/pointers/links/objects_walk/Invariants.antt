use Rattle.std.proofs.Common.{◌≡◌, drop}
use Rattle.fk_image.specs.Format.Offsets.{objects_walk}
use Rattle.fk_image.specs.Pointers.Places.{IsIndex}
use Rattle.fk_image.specs.Pointers.Walks.{standing}
use Rattle.fk_image.proofs.pointers.links.objects_walk.Given as goal

abbrev pub invariant-loop-object : goal.invariant-loop-object
invariant-loop-object l = IsIndex l.spaces l.index ×
    (objects_walk l.spaces l.objects (drop l.object-index l.objects) (standing l.at l.named)
    ≡ objects_walk l.spaces l.objects l.objects (standing l.from l.fn.named))
