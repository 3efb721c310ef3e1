use Rattle.std.proofs.Common.{refl, arith}
use Rattle.fk_image.proofs.image.objects.Objects.with_room.Goals as goal

pub invariant_of-result : goal.invariant_of-result
invariant_of-result c = rw (c.in_ok-with_capacity.ensures.items, c.new.ensures.items) (refl, λ some. absurd (omega (arith, some)))
