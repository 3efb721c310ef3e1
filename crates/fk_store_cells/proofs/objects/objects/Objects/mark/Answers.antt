use Rattle.std.proofs.Common.{refl, ap}
use Rattle.fk_store_cells.specs.Slots.Cells.{cell}
use Rattle.fk_store_cells.proofs.InObjects.ChangeLaws.{kept_filed}
use Rattle.fk_store_cells.proofs.objects.objects.Objects.mark.Goals as goal

pub invariant_of-self : goal.invariant_of-self
invariant_of-self c = kept_filed _ _ _ _ c.self.inside.entries c.self.inside.entries refl
    (λ a k. ap (λ rows. cell rows a k) c.mark.ensures.keys) c.self.invariant
