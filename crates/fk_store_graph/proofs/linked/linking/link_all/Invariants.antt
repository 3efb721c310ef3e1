use Rattle.std.proofs.Common.{◌≡◌, ℕ, Option, Some, length}
use Rattle.fk_store_graph.specs.Links.Links.{AreRings}
use Rattle.fk_store_graph.proofs.InLinked.LinkedLaws.{so_far}
use Rattle.fk_store_graph.proofs.linked.linking.link_all.Given as goal

-- the fields so far lead where the body says
abbrev pub invariant-loop-field : goal.invariant-loop-field
invariant-loop-field l = record {
  rings : (owner : ℕ → Option ℕ) → AreRings l.initial.links owner → AreRings l.links (so_far l.objects owner l.key (Some l.body) l.field);
  long : length l.links ≡ length l.initial.links;
}
