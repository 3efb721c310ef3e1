use Rattle.std.proofs.Common.{ℕ, length}
use Rattle.fk_store_graph.specs.Linked.Bodied.{AreAlike}
use Rattle.fk_store_graph.proofs.InLinked.SweepLaws.{IsSwept, Comes}
use Rattle.fk_store_graph.proofs.linked.sweeping.rename_led.Given as goal

-- each body is swept, or those of its nodes that lead there are yet to come
abbrev pub invariant-loop-node : goal.invariant-loop-node
invariant-loop-node l = record {
  alike : AreAlike l.initial.objects l.objects;
  swept : (j : ℕ) → IsSwept l.initial.objects l.sweep l.key l.objects l.walk j;
  comes : Comes l.initial.objects l.sweep l.key l.walk;
}

abbrev pub decreases-loop-node : goal.decreases-loop-node
decreases-loop-node l = length l.walk
