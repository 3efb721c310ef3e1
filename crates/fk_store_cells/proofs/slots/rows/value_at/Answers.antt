use Rattle.std.proofs.Common.{sym, ◌∙◌, arith}
use Rattle.fk_store_cells.proofs.InSlots.CellLaws.{cell_past, cell_found}
use Rattle.fk_store_cells.proofs.slots.rows.value_at.Goals as goal

pub returns-then-at-len : goal.returns-then-at-len
returns-then-at-len g c = c.at.ensures ∙ sym (cell_found _ c.args.space c.args.slot _ (omega arith) c.index.ensures)

pub returns-else-at-len : goal.returns-else-at-len
returns-else-at-len g c = sym (cell_past _ c.args.space c.args.slot (omega arith))
