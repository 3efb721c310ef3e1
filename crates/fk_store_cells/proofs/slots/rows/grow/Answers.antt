use Rattle.std.proofs.Common.{◌∙◌, length-append, arith}
use Rattle.fk_store_cells.proofs.InSlots.CellLaws.{cells_more}
use Rattle.fk_store_cells.proofs.slots.rows.grow.Goals as goal

pub loop-alloc-preserved : goal.loop-alloc-preserved
loop-alloc-preserved g c = rw (c.in_ok-push.ensures.items, c.new.ensures) (record {
  same = λ s k. cells_more c.loop-alloc.rows.items s k ∙ c.loop-alloc.invariant.same s k;
  few = λ few. simp length-append (omega (arith, c.loop-alloc.invariant.few few));
})
