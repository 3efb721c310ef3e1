use Rattle.std.proofs.Common.{true, refl, arith}
use Rattle.fk_store_graph.proofs.InBodies.LeaderSums.{count-begins, count-goes, count-room, count-ends}
use Rattle.fk_store_graph.proofs.InBodies.LeadingLaws.{fewer_left}
use Rattle.fk_store_graph.proofs.bodies.bodies.Bodies.pointers_at.Goals as goal

pub loop-from-init : goal.loop-from-init
loop-from-init c = record {
  total = count-begins _ _ (c.leaders-leaders.ensures.sums c.leaders-leaders.ensures.whole (λ q. true));
  low = omega (arith, c.leaders-leaders.ensures.few);
}

pub loop-from-preserved : goal.loop-from-preserved
loop-from-preserved c = record {
  total = count-goes c.in-Some._from _ _ c.loop-from.count _ c.in-Some.ensures.some c.loop-from.invariant.total;
  low = count-room c.in-Some._from _ _ c.loop-from.count _ c.in-Some.ensures.some c.loop-from.invariant.low;
}

pub loop-from-smaller : goal.loop-from-smaller
loop-from-smaller c = fewer_left c.in-Some._from _ _ c.in-Some.ensures.some

pub returns : goal.returns
returns c = count-ends _ c.loop-from.count _ (c.in_default.ensures.none refl).0 c.loop-from.invariant.total
