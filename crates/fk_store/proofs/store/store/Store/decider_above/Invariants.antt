use Rattle.std.proofs.Common.{◌≡◌, ◌+◌, ◌≤◌, option_map}
use Rattle.fk_model.specs.Places.Ptr.{At}
use Rattle.fk_model.specs.Objects.{or_else}
use Rattle.fk_model.specs.Holds as holds
use Rattle.fk_store.specs.Store.Paths.{path, place}
use Rattle.fk_store.specs.Store.Named.{Each}
use Rattle.fk_store.specs.Store.World.{world, IsLive}
use Rattle.fk_store.proofs.store.store.Store.decider_above.Given as goal

-- what decides above, or else what was found so far
abbrev pub invariant-loop-above : goal.invariant-loop-above
invariant-loop-above l = record {
  steps : l.at + l._above ≤ l.fn.object.space;
  decider : or_else (holds.decider (world l.self) (path l.self l.at))
      (option_map (λ who. At (place (path l.self) who)) l.holder) ≡ holds.decider (world l.self) (place (path l.self) l.fn.object);
  live : Each (IsLive l.self) l.holder;
}
