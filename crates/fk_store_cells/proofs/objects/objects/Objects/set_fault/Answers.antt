use Rattle.std.proofs.Common.{refl}
use Rattle.fk_store_cells.proofs.InObjects.ChangeLaws.{edited, edited_filed}
use Rattle.fk_store_cells.proofs.objects.objects.Objects.set_fault.Goals as goal

pub invariant_of-self : goal.invariant_of-self
invariant_of-self c = edited_filed _ _ _ _ _ _ c.set_fault.ensures (λ e. refl) c.self.invariant

pub returns : goal.returns
returns c = rw (← c.self.view_is) (edited _ _ _ _ _ _ c.set_fault.ensures)
