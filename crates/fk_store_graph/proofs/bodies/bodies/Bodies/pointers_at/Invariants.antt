use Rattle.std.proofs.Common.{◌≡◌, ◌+◌, ◌≤◌, length}
use Rattle.std.specs.FinMap.{entries}
use Rattle.std.specs.List.{sum_by}
use Rattle.fk_store_graph.specs.Linked.Pointers.{body_hits}
use Rattle.fk_store_graph.proofs.bodies.bodies.Bodies.pointers_at.Given as goal

-- what was counted, and what is yet to come
abbrev pub invariant-loop-from : goal.invariant-loop-from
invariant-loop-from l = record {
  total : l.count + length l.leaders.0 ≡ sum_by (λ e. body_hits l.fn.who e.1) (entries l.fn.self);
  low : l.count + length l.leaders.0 ≤ 5497558138880;
}

abbrev pub decreases-loop-from : goal.decreases-loop-from
decreases-loop-from l = length l.leaders.0
