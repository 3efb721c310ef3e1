use Rattle.fk_store_graph.specs.Bodies.Nudges.{nudged}
use Rattle.fk_store.proofs.InFreezing.TreeLaws.{nudged-birth, nudged-held, tree_changed}
use Rattle.fk_store.proofs.freezing.tree.Tree.nudge.Goals as goal

pub invariant_of-self : goal.invariant_of-self
invariant_of-self c = tree_changed _ c.args.who (nudged c.args.change) (nudged-birth c.args.change) (nudged-held c.args.change)
    _ c.nudge.ensures.there c.nudge.ensures.none _ _ c.self.invariant
