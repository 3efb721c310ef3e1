use Rattle.std.proofs.Common.{ℕ, ◌<◌, ◌-◌, ◌∷◌}
use Rattle.fk_store.specs.Store.Paths.{path, place}
use Rattle.fk_store.specs.Store.World.{world}
use Rattle.fk_turns.specs.Picks.Stands.{ConnectsBy, IsPicked}
use Rattle.fk_turns.proofs.picks.ports.takes_by_handle.Given as goal

-- none in the slots so far
abbrev pub invariant-loop-slot : goal.invariant-loop-slot
invariant-loop-slot l = let s = path l.store l.handle.space in
    (k : ℕ) → k < l.from → ConnectsBy (world l.store) (place (path l.store) l.handle) (k ∷ s) → IsPicked l.store l.picker (k ∷ s) → ⊥

abbrev pub decreases-loop-slot : goal.decreases-loop-slot
decreases-loop-slot l = 256 - l.from
