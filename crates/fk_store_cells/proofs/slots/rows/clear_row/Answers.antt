use Rattle.std.proofs.Common.{arith}
use Rattle.fk_store_cells.proofs.InSlots.CellLaws.{cells_set, row_past}
use Rattle.fk_store_cells.proofs.slots.rows.clear_row.Goals as goal

pub returns-then-at-len-clause-left : goal.returns-then-at-len-clause-left
returns-then-at-len-clause-left g c = λ s k. rw c.new.ensures (cells_set _ c.args.space _ (omega arith) s k)

pub returns-else-at-len-clause-left : goal.returns-else-at-len-clause-left
returns-else-at-len-clause-left g c = λ s k. row_past _ c.args.space s k (omega arith)
