use Rattle.std.proofs.Common.{◌≡◌, ℕ, Option, length}
use Rattle.fk_store_graph.specs.Links.Links.{AreRings}
use Rattle.fk_store_graph.proofs.InLinked.LinkedLaws.{unled_so_far}
use Rattle.fk_store_graph.proofs.linked.linking.unlink_all.Given as goal

-- the fields so far lead nowhere
abbrev pub invariant-loop-field : goal.invariant-loop-field
invariant-loop-field l = record {
  rings : (owner : ℕ → Option ℕ) → AreRings l.initial.links owner → AreRings l.links (unled_so_far owner l.key l.field);
  long : length l.links ≡ length l.initial.links;
}
