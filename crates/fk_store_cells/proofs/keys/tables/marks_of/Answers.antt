use Rattle.fk_store_cells.proofs.InKeys.KeyLaws.{unmarked}
use Rattle.fk_store_cells.proofs.keys.tables.marks_of.Goals as goal

pub returns-in-None : goal.returns-in-None
returns-in-None c = rw c.in-None.is (unmarked 32)
