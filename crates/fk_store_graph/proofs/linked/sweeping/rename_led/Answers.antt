use Rattle.std.proofs.Common.{inr, refl, ◌∙◌, arith}
use Rattle.fk_store_graph.proofs.InLinked.AlikeLaws.{small_name, alike_same, alike_both}
use Rattle.fk_store_graph.proofs.InLinked.LinkedLaws.{head_node, head_room}
use Rattle.fk_store_graph.proofs.InLinked.SweepLaws.{swept_step, swept_ends, comes_rest, fewer}
use Rattle.fk_store_graph.proofs.linked.sweeping.rename_led.Goals as goal

pub walk-walk-requires-clause-there : goal.walk-walk-requires-clause-there
walk-walk-requires-clause-there c = rw c.head_of.ensures (head_room _ _ c.args.sweep.from c.args.key c.filed.ensures c.requires.here c.requires.long)

pub walk-walk-requires-clause-head : goal.walk-walk-requires-clause-head
walk-walk-requires-clause-head c = rw c.head_of.ensures (head_node c.args.key)

pub head_of-requires : goal.head_of-requires
head_of-requires c = let low = small_name _ c.args.sweep.from c.args.key c.filed.ensures c.requires.here in omega (arith, low)

pub loop-node-init : goal.loop-node-init
loop-node-init c =
    let are = rw c.head_of.ensures at c.walk-walk.ensures.all _ c.requires.rings in
    record { alike = alike_same _; swept = λ j. inr (refl, λ n field to at_j. are.all n field to); comes = are.lead }

pub loop-node-preserved : goal.loop-node-preserved
loop-node-preserved c = record {
  alike = alike_both _ _ _ c.loop-node.invariant.alike c.sweep_one.ensures.alike;
  swept = swept_step c.args.objects.now c.args.sweep c.args.key c.filed.ensures c.requires.here c.requires.other _ _ c.in-Some.node _ _
      c.in-Some.ensures.some c.loop-node.invariant.comes c.sweep_one.ensures c.loop-node.invariant.swept;
  comes = comes_rest c.args.objects.now c.args.sweep c.args.key c.in-Some.node _ _ c.in-Some.ensures.some c.loop-node.invariant.comes;
}

pub loop-node-smaller : goal.loop-node-smaller
loop-node-smaller c = fewer c.in-Some.node _ _ c.in-Some.ensures.some

pub returns : goal.returns
returns c = record {
  alike = c.loop-node.invariant.alike;
  bodies = swept_ends c.args.objects.now c.args.sweep c.args.key c.filed.ensures c.requires.here c.requires.other _ _
      (c.in_default.ensures.none refl).0 c.loop-node.invariant.swept;
}
