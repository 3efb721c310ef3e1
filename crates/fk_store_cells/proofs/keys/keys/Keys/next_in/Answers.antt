use Rattle.fk_store_cells.proofs.InKeys.TableLaws.{first_seen, none_seen}
use Rattle.fk_store_cells.proofs.InKeys.PlaceLaws.{key_read}
use Rattle.fk_store_cells.proofs.keys.keys.Keys.next_in.Goals as goal

pub returns-clause-some : goal.returns-clause-some
returns-clause-some c = rw (← c.self.view_is) (first_seen c.next_taken_in.result c.args.slot _ _
    (key_read c.self.inside.places.items c.self.inside.tables c.self.invariant c.args.space _ c.table_at-table.ensures) c.next_taken_in.ensures.some)

pub returns-clause-none : goal.returns-clause-none
returns-clause-none c = rw (← c.self.view_is) (none_seen c.next_taken_in.result c.args.slot _ _
    (key_read c.self.inside.places.items c.self.inside.tables c.self.invariant c.args.space _ c.table_at-table.ensures) c.next_taken_in.ensures.none)
