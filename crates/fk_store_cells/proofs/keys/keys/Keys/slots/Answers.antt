use Rattle.fk_store_cells.proofs.InKeys.TableLaws.{short_all}
use Rattle.fk_store_cells.proofs.keys.keys.Keys.slots.Goals as goal

pub returns : goal.returns
returns c = rw (← c.self.view_is) (short_all _ c.self.invariant.are)
