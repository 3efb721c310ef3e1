use Rattle.std.proofs.Common.{sym, ◌∙◌, arith}
use Rattle.fk_store_cells.proofs.InSlots.CellLaws.{cells_put, cells_past, cell_past, cell_found, room_set}
use Rattle.fk_store_cells.proofs.slots.rows.take_value.Goals as goal

pub returns-then-at-len-clause-taken : goal.returns-then-at-len-clause-taken
returns-then-at-len-clause-taken g c = c.take.ensures.taken ∙ sym (cell_found _ c.args.space c.args.slot _ (omega arith) c.index_mut-row.ensures.value)

pub returns-then-at-len-clause-left : goal.returns-then-at-len-clause-left
returns-then-at-len-clause-left g c = cells_put _ c.args.space c.args.slot _ _ _ (omega arith) c.index_mut-row.ensures.value c.take.ensures.left

pub returns-then-at-len-clause-room : goal.returns-then-at-len-clause-room
returns-then-at-len-clause-room g c = λ some. room_set _ c.args.space _ (omega arith) (c.take.ensures.room some)

pub returns-else-at-len-clause-taken : goal.returns-else-at-len-clause-taken
returns-else-at-len-clause-taken g c = sym (cell_past _ c.args.space c.args.slot (omega arith))

pub returns-else-at-len-clause-left : goal.returns-else-at-len-clause-left
returns-else-at-len-clause-left g c = λ s k. cells_past _ c.args.space c.args.slot s k (omega arith)
