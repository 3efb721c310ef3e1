use Rattle.std.proofs.Common.{◌≡◌, ◌+◌, ◌≤◌}
use Rattle.fk_model.specs.Places.{is_within}
use Rattle.fk_store.specs.Store.Paths.{path, place}
use Rattle.fk_store.specs.Store.World.{IsSpace}
use Rattle.fk_objects.proofs.destroying.is_above.Given as goal

-- the object is above the space that is reached where it is above the first
abbrev pub invariant-loop-step : goal.invariant-loop-step
invariant-loop-step l = record {
  steps : l.at + l._step ≤ l.fn.space;
  space : IsSpace l.store l.at;
  same : is_within (place (path l.store) l.object) (path l.store l.at) ≡ is_within (place (path l.store) l.object) (path l.store l.fn.space);
}
