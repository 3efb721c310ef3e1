use Rattle.fk_store_cells.proofs.objects.objects.Objects.filed.Goals as goal

pub returns : goal.returns
returns c = rw (← c.self.view_is) c.self.invariant
