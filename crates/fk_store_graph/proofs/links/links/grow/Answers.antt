use Rattle.std.proofs.Common.{◌∙◌, length-append, arith}
use Rattle.fk_store_graph.proofs.InLinks.LinkLaws.{next-push, prev-push}
use Rattle.fk_store_graph.proofs.links.links.grow.Goals as goal

pub loop-node-preserved : goal.loop-node-preserved
loop-node-preserved c = rw c.in_ok-push.ensures.items (record {
  next = λ n. next-push _ _ n c.loop-node.invariant.at ∙ c.loop-node.invariant.next n;
  prev = λ n. prev-push _ _ n c.loop-node.invariant.at ∙ c.loop-node.invariant.prev n;
  at = simp length-append (omega arith);
  more = simp length-append (omega arith);
  few = λ few. simp length-append (let low = c.loop-node.invariant.few few in omega arith);
})
