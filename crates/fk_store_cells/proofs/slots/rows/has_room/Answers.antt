use Rattle.std.proofs.Common.{◌≡◌, sym, ◌∙◌, arith}
use Rattle.std.proofs.lemmas.Bool.Decides.{nat_tests}
use Rattle.fk_store_cells.proofs.InSlots.CellLaws.{room_found}
use Rattle.fk_store_cells.proofs.slots.rows.has_room.Goals as goal

pub returns-then-at-len : goal.returns-then-at-len
returns-then-at-len g c h =
    let all : c.room.result ≡ 256 = grind (arith, nat_tests) in
    room_found _ c.args.space _ (omega arith) c.index.ensures (sym c.room.ensures.room ∙ all)
