-- Renames: an object gets another slot of its space.
use Rattle.std.specs.Prelude.{◌≡◌, ℕ, false, [], ◌∷◌, None}
use Rattle.fk_model.specs.declared.names.Who.{Who}
use Rattle.fk_model.specs.ObjectRows.{renamed}
use Rattle.fk_model.specs.Outcomes.{Outcome, Caller, path_of, done_at}
use Rattle.fk_model.specs.Places.{Path, parent}
use Rattle.fk_model.specs.Searches.{has_residents}
use Rattle.fk_model.specs.World.Change.{Move}
use Rattle.fk_store.specs.Store.Contents.{Contents}
use Rattle.fk_store.specs.Store.Paths.{path, place}
use Rattle.fk_store.specs.Store.World.{world, IsLive}

-- then the stage is done, for a thread that renames itself in its new slot
abbrev pub renames : Caller → Path → ℕ → Outcome
renames c x slot = done_at (renamed x (slot ∷ parent x) (path_of c)) c (Move x slot ∷ []) []

-- the object is there, nothing stands in it, and the slot is empty
abbrev pub IsMoving : Contents → Who → ℕ → Type 0
IsMoving m object slot =
    IsLive m object × (has_residents (world m) (place (path m) object) ≡ false) × ((world m).body (slot ∷ path m object.space) ≡ None)
