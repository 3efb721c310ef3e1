use Rattle.std.proofs.Common.{◌≡◌, ◌≤◌, ℕ, length}
use Rattle.fk_store_graph.specs.Links.Links.{next_at, prev_at}
use Rattle.fk_store_graph.proofs.links.links.grow.Given as goal

abbrev pub invariant-loop-node : goal.invariant-loop-node
invariant-loop-node l = record {
  next : (n : ℕ) → next_at l.links.items n ≡ next_at l.initial.links.items n;
  prev : (n : ℕ) → prev_at l.links.items n ≡ prev_at l.initial.links.items n;
  at : l.node ≡ length l.links.items;
  more : length l.initial.links.items ≤ length l.links.items;
  few : length l.initial.links.items ≤ 4294967296 → length l.links.items ≤ 4294967296;
}
