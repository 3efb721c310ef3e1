use Rattle.std.proofs.Common.{◌≡◌, ◌<◌, ℕ, length, Option, Some}
use Rattle.fk_store_graph.specs.Links.Links.{AreRings}
use Rattle.fk_store_graph.specs.Links.Nodes.{node_of}
use Rattle.fk_store_graph.specs.Linked.Bodied.{head_led}
use Rattle.fk_store_graph.proofs.InLinked.LinkedLaws.{so_far}
use Rattle.fk_store_graph.proofs.linked.linking.link_anew.Given as goal

-- the fields so far lead where the new body says
abbrev pub invariant-loop-field : goal.invariant-loop-field
invariant-loop-field l = record {
  rings : (owner : ℕ → Option ℕ) → ((i : ℕ) → i < 5 → owner (node_of l.key i) ≡ head_led l.objects (Some l.old) i) →
      AreRings l.initial.links owner → AreRings l.links (so_far l.objects owner l.key (Some l.body) l.field);
  long : length l.links ≡ length l.initial.links;
}
