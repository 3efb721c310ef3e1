use Rattle.std.proofs.Common.{◌∙◌, length-append, arith}
use Rattle.fk_store_cells.proofs.InSlots.CellLaws.{get_or_more}
use Rattle.fk_store_cells.specs.Keys.Tables.{nothing}
use Rattle.fk_store_cells.proofs.keys.keys.grow.Goals as goal

pub loop-places-preserved : goal.loop-places-preserved
loop-places-preserved c = rw c.in_ok-push.ensures.items (record {
  same = λ s. get_or_more c.loop-places.places.items nothing s ∙ c.loop-places.invariant.same s;
  few = λ few. simp length-append (omega (arith, c.loop-places.invariant.few few));
})
