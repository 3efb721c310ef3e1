use Rattle.std.proofs.Common.{arith}
use Rattle.fk_store_cells.proofs.InSlots.CellLaws.{cells_put, room_low, room_long}
use Rattle.fk_store_cells.proofs.slots.rows.lay_value.Goals as goal

pub index_mut-row-requires : goal.index_mut-row-requires
index_mut-row-requires g c = let low = room_low c.args.rows.now.items c.args.space c.requires in omega (arith, low)

pub lay-requires : goal.lay-requires
lay-requires g c = room_long _ c.args.space _ c.requires c.index_mut-row.ensures.value

pub returns-clause-laid : goal.returns-clause-laid
returns-clause-laid g c = cells_put _ c.args.space c.args.slot _ _ _ (room_low _ c.args.space c.requires) c.index_mut-row.ensures.value c.lay.ensures.laid
