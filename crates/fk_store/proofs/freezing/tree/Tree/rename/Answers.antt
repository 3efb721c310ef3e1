use Rattle.fk_store.proofs.InFreezing.TreeLaws.{tree_renamed}
use Rattle.fk_store.proofs.freezing.tree.Tree.rename.Goals as goal

pub invariant_of-self : goal.invariant_of-self
invariant_of-self c = tree_renamed _ _ c.args.from c.args.to c.requires.space c.rename.ensures _ _ c.self.invariant
