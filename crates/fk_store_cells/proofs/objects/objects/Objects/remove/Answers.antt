use Rattle.fk_store_cells.proofs.InObjects.ChangeLaws.{contains, removed, removed_filed}
use Rattle.fk_store_cells.proofs.objects.objects.Objects.remove.Goals as goal

pub remove-gone-requires : goal.remove-gone-requires
remove-gone-requires c = contains _ _ c.self.inside.entries _ (rw (← c.self.view_is) at c.requires)

pub invariant_of-self : goal.invariant_of-self
invariant_of-self c = removed_filed _ _ _ _ c.self.inside.entries c.remove-gone.new.self _ _
    c.remove-gone.ensures.value c.remove-gone.ensures.updates c.remove.ensures.left c.self.invariant

pub returns : goal.returns
returns c = rw (← c.self.view_is) (removed _ _ _ _ c.self.inside.entries c.remove-gone.new.self _ _
    c.remove-gone.ensures.value c.remove-gone.ensures.updates c.remove.ensures.left c.remove.ensures.marks)
