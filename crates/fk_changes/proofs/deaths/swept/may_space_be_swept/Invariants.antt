use Rattle.std.proofs.Common.{◌≡◌, ◌<◌, ℕ, true, ◌∷◌}
use Rattle.fk_model.specs.Freezing.{may_be_swept}
use Rattle.fk_store.specs.Store.Paths.{path, place}
use Rattle.fk_store.specs.Store.World.{world}
use Rattle.fk_changes.proofs.deaths.swept.may_space_be_swept.Given as goal

-- those so far may be swept
abbrev pub invariant-loop-slot : goal.invariant-loop-slot
invariant-loop-slot l = (k : ℕ) → k < l.slot →
    may_be_swept (world l.store) (place (path l.store) l.me) (place (path l.store) l.gone) (k ∷ path l.store l.gone.space) ≡ true
