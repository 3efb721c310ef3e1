use Rattle.fk_store_graph.specs.Bodies.Threads.{proceeded}
use Rattle.fk_store.proofs.InFreezing.TreeLaws.{proceeded-birth, proceeded-held, tree_changed}
use Rattle.fk_store.proofs.freezing.tree.Tree.proceed.Goals as goal

pub invariant_of-self : goal.invariant_of-self
invariant_of-self c = tree_changed _ c.args.who (proceeded c.args.registers.now c.args.counter c.args.mode)
    (proceeded-birth c.args.registers.now c.args.counter c.args.mode) (proceeded-held c.args.registers.now c.args.counter c.args.mode)
    _ c.proceed.ensures.there c.proceed.ensures.none _ _ c.self.invariant
