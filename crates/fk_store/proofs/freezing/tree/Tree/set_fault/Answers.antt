use Rattle.fk_store.proofs.InFreezing.TreeLaws.{faulted_tree}
use Rattle.fk_store.proofs.freezing.tree.Tree.set_fault.Goals as goal

pub invariant_of-self : goal.invariant_of-self
invariant_of-self c =
    let t = rw (← c.self.view_is) at c.requires.thread in
    faulted_tree _ c.args.who t.0 c.args.fault t.1 _ (c.set_fault.ensures t.0 t.1) _ _ c.self.invariant
