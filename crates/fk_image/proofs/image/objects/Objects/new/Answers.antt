use Rattle.std.proofs.Common.{refl, arith}
use Rattle.fk_image.proofs.image.objects.Objects.new.Goals as goal

pub invariant_of-result : goal.invariant_of-result
invariant_of-result c = rw (c.new.ensures.items, c.new-2.ensures.items) (refl, λ some. absurd (omega (arith, some)))
