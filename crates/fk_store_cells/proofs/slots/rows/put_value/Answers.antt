use Rattle.std.proofs.Common.{◌∙◌, ap, cond, Some, ◌&&◌, ◌==◌}
use Rattle.fk_store_cells.proofs.InSlots.CellLaws.{cells_put}
use Rattle.fk_store_cells.proofs.InSlots.Results.{on_ok}
use Rattle.fk_store_cells.proofs.slots.rows.put_value.Goals as goal

pub returns-clause-ok : goal.returns-clause-ok
returns-clause-ok g c = on_ok c.put.result _ _
    (λ put s k. cells_put _ c.args.space c.args.slot _ _ _ c.in_ok-grow.ensures.long c.index_mut-row.ensures.value put s k
    ∙ ap (cond (s == c.args.space && k == c.args.slot) (Some c.args.value)) (c.grow.ensures.same s k)) c.put.ensures.ok
