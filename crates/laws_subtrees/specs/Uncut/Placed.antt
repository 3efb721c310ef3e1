-- Porters and served ports: no move makes one, and a space with a porter stays in its place. No space comes to the place of another.
use Rattle.std.specs.Prelude.{◌≡◌, ℕ, ◌≤◌, true, ◌∷◌, Some}
use Rattle.fk_model.specs.declared.limits.TheConstants.{LAST_PORTER_SLOT}
use Rattle.fk_model.specs.Objects.{holds, is_served}
use Rattle.fk_model.specs.Places.{Path}
use Rattle.fk_model.specs.World.{World}
use Rattle.fk_model.specs.Searches.{depth}
use Rattle.fk_model.specs.StateRows.{is_native}
use Rattle.fk_model.specs.Runs.{Event, after}
use Rattle.fk_model.specs.Valid.{IsValid, is_fit, birth_at}
use Rattle.fk_model.specs.Sound.{IsUncut}

-- who is a porter in the last slot of a space was one before the move
abbrev pub PortersStood : Type 0
PortersStood = (w : World) (e : Event) → IsUncut w → (x : Path) → holds is_native ((after w e).body (LAST_PORTER_SLOT ∷ x)) ≡ true
    → holds is_native (w.body (LAST_PORTER_SLOT ∷ x)) ≡ true

-- what is a served port was one
abbrev pub ServedStood : Type 0
ServedStood = (w : World) (e : Event) → IsUncut w → (x : Path) → holds is_served ((after w e).body x) ≡ true → holds is_served (w.body x) ≡ true

-- a space with a porter after a fit move is the one that was there
abbrev pub PortersSpaceStays : Type 0
PortersSpaceStays = (w : World) (e : Event) → IsUncut w → IsValid w → w.next ≤ depth → is_fit w e.mover e.ask ≡ true → (x : Path) →
    holds is_native ((after w e).body (LAST_PORTER_SLOT ∷ x)) ≡ true → birth_at (after w e) x ≡ birth_at w x

-- a space that stands where one stood before a fit move is that one
abbrev pub SpacesAreNotReplaced : Type 0
SpacesAreNotReplaced = (w : World) (e : Event) → IsUncut w → IsValid w → w.next ≤ depth → is_fit w e.mover e.ask ≡ true → (y : Path) (birth other : ℕ) →
    birth_at w y ≡ Some birth → birth_at (after w e) y ≡ Some other → other ≡ birth
