use Rattle.std.proofs.Common.{sym, arith, ◌∙◌}
use Rattle.fk_store_graph.proofs.InLinked.LinkedLaws.{pointer_node, head_put, within_led, head_is}
use Rattle.fk_store_graph.proofs.linked.linking.link_field.Goals as goal

pub point-requires-clause-node : goal.point-requires-clause-node
point-requires-clause-node c =
    rw c.node_of.ensures (let long = c.requires.long in let few = c.requires.field in omega (arith, long, few))

pub point-requires-clause-pointer : goal.point-requires-clause-pointer
point-requires-clause-pointer c = rw c.node_of.ensures (pointer_node c.args.key c.args.field c.requires.field c.if-field-ne2.true)

pub point-requires-clause-within : goal.point-requires-clause-within
point-requires-clause-within c = λ h is. within_led c.args.objects.now _ c.args.body.now c.args.field c.requires.heads h (sym c.head_led.ensures ∙ is)

pub point-requires-clause-head : goal.point-requires-clause-head
point-requires-clause-head c = λ h is. head_is c.args.objects.now c.args.body.now c.args.field h (sym c.head_led.ensures ∙ is)

pub returns-then-field-ne2-clause-rings : goal.returns-then-field-ne2-clause-rings
returns-then-field-ne2-clause-rings c = rw (c.node_of.ensures, c.head_led.ensures) at c.point.ensures.rings

pub returns-else-field-ne2-clause-rings : goal.returns-else-field-ne2-clause-rings
returns-else-field-ne2-clause-rings c = λ owner are. head_put _ owner c.args.key c.args.field _ (omega arith) are
