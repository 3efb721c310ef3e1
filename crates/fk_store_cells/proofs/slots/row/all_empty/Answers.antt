use Rattle.std.proofs.Common.{refl, length-append, arith, ◌∙◌}
use Rattle.fk_store_cells.proofs.InSlots.CellLaws.{cell_more}
use Rattle.fk_store_cells.proofs.slots.row.all_empty.Goals as goal

pub loop-init : goal.loop-init
loop-init g c = rw c.in_ok-cells.ensures.items (record { long = refl; none = λ k. refl })

pub loop-preserved : goal.loop-preserved
loop-preserved g c = rw c.in_ok-push.ensures.items (record {
  long = simp length-append (omega (arith, c.loop.invariant.long));
  none = λ k. cell_more c.loop.cells.items k ∙ c.loop.invariant.none k;
})
