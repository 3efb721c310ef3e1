use Rattle.fk_store.proofs.InFreezing.TreeLaws.{fresh}
use Rattle.fk_store.proofs.freezing.tree.Tree.new.Goals as goal

pub invariant_of-result : goal.invariant_of-result
invariant_of-result c = rw c.new.ensures (fresh _ _)
