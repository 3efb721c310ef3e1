use Rattle.std.proofs.Common.{◌≡◌, ℕ, length, option_map}
use Rattle.fk_store_graph.specs.Links.Links.{AreRings}
use Rattle.fk_store_graph.specs.Linked.Bodied.{owner, body_under, bodies, HaveNodes, AreAlike}
use Rattle.fk_store_graph.specs.Leads.Held.{held_in, IsCount}
use Rattle.fk_store_graph.specs.Leads.Leading.{all_leading}
use Rattle.fk_store_graph.specs.Leads.Sweeps.{led_after}
use Rattle.fk_store_graph.proofs.linked.sweeping.free_led.Given as goal

-- who is swept now isn't changed by it later
abbrev pub invariant-loop-node : goal.invariant-loop-node
invariant-loop-node l = record {
  alike : AreAlike l.initial.objects l.objects;
  swept : (j : ℕ) → option_map (led_after l.sweep) (body_under l.objects j) ≡ option_map (led_after l.sweep) (body_under l.initial.objects j);
  rings : AreRings l.links (owner l.objects);
  long : length l.links ≡ length l.initial.links;
  nodes : HaveNodes l.objects (length l.links);
  held : IsCount (held_in (bodies l.objects)) l.held;
}

abbrev pub decreases-loop-node : goal.decreases-loop-node
decreases-loop-node l = all_leading l.sweep.from (bodies l.objects)
