-- What users and native servers leave of a nester: its place, and the slots of its porter.
use Rattle.std.specs.Prelude.{◌≡◌, ℕ, ◌≤◌, true, false, nat_le, IsSome, ◌∷◌}
use Rattle.fk_model.specs.declared.limits.TheConstants.{LAST_USER_SLOT, LAST_PORTER_SLOT}
use Rattle.fk_model.specs.Places.{Path}
use Rattle.fk_model.specs.Objects.{holds}
use Rattle.fk_model.specs.World.{World}
use Rattle.fk_model.specs.Searches.{depth}
use Rattle.fk_model.specs.StateRows.{is_native}
use Rattle.fk_model.specs.Runs.{Event, after}
use Rattle.fk_model.specs.Valid.{IsValid, IsRooted, birth_at}
use Rattle.laws_moves.specs.Frozen.Users.{is_users}

-- what stands in a slot above 239 after their move stood there before
abbrev pub UsersFillLow : Type 0
UsersFillLow = (w : World) (e : Event) → IsRooted w → is_users e.ask ≡ true → (s : Path) (k : ℕ) → nat_le k LAST_USER_SLOT ≡ false →
    IsSome ((after w e).body (k ∷ s)) → IsSome (w.body (k ∷ s))

-- a space that has a porter after their move was in that place before it
abbrev pub NesterStays : Type 0
NesterStays = (w : World) (e : Event) → IsValid w → w.next ≤ depth → is_users e.ask ≡ true → (nester : Path) →
    holds is_native ((after w e).body (LAST_PORTER_SLOT ∷ nester)) ≡ true → birth_at (after w e) nester ≡ birth_at w nester
