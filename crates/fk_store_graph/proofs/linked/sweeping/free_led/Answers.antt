use Rattle.std.proofs.Common.{refl, sym, ◌∙◌, arith}
use Rattle.fk_store_graph.proofs.InLinked.AlikeLaws.{small_name, alike_same, alike_both, alike_filed, swept_nodes}
use Rattle.fk_store_graph.proofs.InLinked.LinkedLaws.{head_node, head_room}
use Rattle.fk_store_graph.proofs.InLinked.SweepLaws.{left_swept}
use Rattle.fk_store_graph.proofs.linked.sweeping.free_led.Goals as goal

pub head_of-requires : goal.head_of-requires
head_of-requires c = let low = small_name _ c.args.sweep.from c.args.key c.filed.ensures c.requires.here in omega (arith, low)

pub loop-node-init : goal.loop-node-init
loop-node-init c = record {
  alike = alike_same _;
  swept = λ j. refl;
  rings = c.requires.rings;
  long = refl;
  nodes = c.requires.long;
  held = c.requires.held;
}

pub first-requires-clause-there : goal.first-requires-clause-there
first-requires-clause-there c = rw c.head_of.ensures
    (head_room _ _ c.args.sweep.from c.args.key (alike_filed _ _ c.loop-node.invariant.alike c.filed.ensures)
    (c.loop-node.invariant.alike.keys c.args.sweep.from ∙ c.requires.here) c.loop-node.invariant.nodes)

pub first-requires-clause-head : goal.first-requires-clause-head
first-requires-clause-head c = rw c.head_of.ensures (head_node c.args.key)

pub free_one-requires-clause-here : goal.free_one-requires-clause-here
free_one-requires-clause-here c = c.loop-node.invariant.alike.keys c.args.sweep.from ∙ c.requires.here

pub free_one-requires-clause-leads : goal.free_one-requires-clause-leads
free_one-requires-clause-leads c =
    let found = c.in-Some.ensures.some _ c.loop-node.invariant.rings in
    (c.in-Some.node, found.0, refl, rw c.head_of.ensures at found.1)

pub loop-node-smaller : goal.loop-node-smaller
loop-node-smaller c = c.free_one.ensures.less

pub loop-node-preserved : goal.loop-node-preserved
loop-node-preserved c = record {
  alike = alike_both _ _ _ c.loop-node.invariant.alike c.free_one.ensures.alike;
  swept = λ j. c.free_one.ensures.swept j ∙ c.loop-node.invariant.swept j;
  rings = c.free_one.ensures.rings;
  long = c.free_one.ensures.long ∙ c.loop-node.invariant.long;
  nodes = swept_nodes _ _ _ _ c.free_one.ensures.swept c.free_one.ensures.long c.loop-node.invariant.nodes;
  held = c.free_one.ensures.held;
}

pub returns-clause-swept : goal.returns-clause-swept
returns-clause-swept c =
    left_swept _ _ (alike_filed _ _ c.loop-node.invariant.alike c.filed.ensures) c.args.sweep c.args.key
    (c.loop-node.invariant.alike.keys c.args.sweep.from ∙ c.requires.here) c.loop-node.invariant.alike c.loop-node.invariant.swept
    (λ n field. rw c.head_of.ensures at c.in_default.ensures.none refl _ c.loop-node.invariant.rings n field)

pub returns-clause-alone : goal.returns-clause-alone
returns-clause-alone c = λ n field. rw c.head_of.ensures at c.in_default.ensures.none refl _ c.loop-node.invariant.rings n field
