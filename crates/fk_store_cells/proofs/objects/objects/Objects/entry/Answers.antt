use Rattle.fk_store_cells.specs.Objects.Filed.{entry_under}
use Rattle.fk_store_cells.proofs.InObjects.ChangeLaws.{entry_found}
use Rattle.fk_store_cells.proofs.objects.objects.Objects.entry.Goals as goal

pub returns-clause-found : goal.returns-clause-found
unfolding entry_under
returns-clause-found c = rw (← c.self.view_is) (entry_found _ c.args.key c.get.result c.self.invariant c.get.ensures)
