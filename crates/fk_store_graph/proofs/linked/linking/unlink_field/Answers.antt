use Rattle.std.proofs.Common.{arith}
use Rattle.fk_store_graph.proofs.InLinked.LinkedLaws.{pointer_node, head_put}
use Rattle.fk_store_graph.proofs.linked.linking.unlink_field.Goals as goal

pub point-requires-clause-node : goal.point-requires-clause-node
point-requires-clause-node c =
    rw c.node_of.ensures (let long = c.requires.long in let few = c.requires.field in omega (arith, long, few))

pub point-requires-clause-pointer : goal.point-requires-clause-pointer
point-requires-clause-pointer c = rw c.node_of.ensures (pointer_node c.args.key c.args.field c.requires.field c.if-field-ne2.true)

pub returns-then-field-ne2-clause-rings : goal.returns-then-field-ne2-clause-rings
returns-then-field-ne2-clause-rings c = rw c.node_of.ensures at c.point.ensures.rings

pub returns-else-field-ne2-clause-rings : goal.returns-else-field-ne2-clause-rings
returns-else-field-ne2-clause-rings c = λ owner are. head_put _ owner c.args.key c.args.field _ (omega arith) are
