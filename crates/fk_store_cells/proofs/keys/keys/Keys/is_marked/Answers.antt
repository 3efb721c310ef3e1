use Rattle.std.proofs.Common.{◌∙◌}
use Rattle.fk_store_cells.proofs.InKeys.PlaceLaws.{mark_read}
use Rattle.fk_store_cells.proofs.keys.keys.Keys.is_marked.Goals as goal

pub returns : goal.returns
returns c = rw (← c.self.view_is) (c.is_marked_in.ensures ∙ mark_read c.self.inside.places.items c.self.inside.tables c.self.invariant c.args.space _
    c.table_at-table.ensures c.args.mark)
