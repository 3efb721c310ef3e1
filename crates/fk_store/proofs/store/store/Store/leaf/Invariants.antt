use Rattle.std.proofs.Common.{◌≡◌, ◌-◌, ◌<◌, ◌≤◌}
use Rattle.fk_model.specs.Searches.{depth, leaf, leaf_by}
use Rattle.fk_store.specs.Store.World.{world, place_of, IsLive}
use Rattle.fk_store.proofs.store.store.Store.leaf.Given as goal

-- from here one comes to the same leaf. Each step leads to a younger space
abbrev pub invariant-loop-step : goal.invariant-loop-step
invariant-loop-step l = record {
  same : leaf_by (depth - l._step) (world l.self) (place_of l.self l.at) ≡ leaf (world l.self) (place_of l.self l.fn.who);
  deep : l._step ≤ l.at.space;
  born : 0 < l._step → l.at.space < (world l.self).next;
  live : IsLive l.self l.fn.who → IsLive l.self l.at;
}
