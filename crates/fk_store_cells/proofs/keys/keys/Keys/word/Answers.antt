use Rattle.std.proofs.Common.{◌∙◌}
use Rattle.fk_store_cells.proofs.InKeys.PlaceLaws.{key_read}
use Rattle.fk_store_cells.proofs.keys.keys.Keys.word.Goals as goal

pub returns : goal.returns
returns c = rw (← c.self.view_is)
    (c.word_in.ensures ∙ key_read c.self.inside.places.items c.self.inside.tables c.self.invariant c.args.space _ c.table_at-table.ensures c.args.slot)
