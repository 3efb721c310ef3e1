use Rattle.fk_store_cells.proofs.InObjects.ChangeLaws.{none_is, filed_none}
use Rattle.fk_store_cells.proofs.objects.objects.Objects.new.Goals as goal

pub invariant_of-result : goal.invariant_of-result
invariant_of-result c = rw c.new-2.ensures (filed_none c.new.result c.new.ensures.empty)

pub returns : goal.returns
returns c = none_is c.new.result c.new-2.result c.new-2.ensures c.new.ensures.empty c.new.ensures.first_key
