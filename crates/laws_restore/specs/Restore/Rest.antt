-- What a restore's calls leave as it was, which calls are its first and its last, and when exactly its slot was taken.
use Rattle.std.specs.Prelude.{◌≡◌, ℕ, ◌≤◌, false, IsSome, List, ◌∷◌}
use Rattle.fk_model.specs.declared.limits.TheConstants.{OWN_SPACE, LAST_USER_SLOT}
use Rattle.fk_model.specs.declared.stage.Stage.{Stage}
use Rattle.fk_model.specs.declared.stage.Stage.TheVariants.{Destroy, SpaceMakeHeld, SpaceRelease}
use Rattle.fk_model.specs.Places.{Path}
use Rattle.fk_model.specs.World.{World}
use Rattle.fk_model.specs.Runs.{after}
use Rattle.laws_jobs.specs.Machines.{no_words, call_of, IsReadyAt, AtWork}
use Rattle.laws_jobs.specs.Machines.Head.{Stops, Asks}
use Rattle.laws_jobs.specs.Jobs.{MayBegin}
use Rattle.laws_restore.specs.Sites.Near.{is_near}
use Rattle.laws_restore.specs.Restore.Rooms.{Room}
use Rattle.laws_restore.specs.Restore.Roomed.{IsRoomed}
use Rattle.laws_restore.specs.Restore.Restore.{End, State, restore}
use Rattle.laws_restore.specs.Restore.Restore.End.{Done, Occupied, NoPort}
use Rattle.laws_restore.specs.Restore.Restore.State.{Makes, Over}

-- all but the new space and its nester's scratch
pub record IsSameFar (nester : Path) (slot : ℕ) (v u : World) : Type 0 where
  pub bodies : (y : Path) → is_near nester slot y ≡ false → u.body y ≡ v.body y
  pub pages : (y : Path) (page : ℕ) → is_near nester slot y ≡ false → u.page y page ≡ v.page y page

-- its first call leaves the rest, and so does each later one, also where it destroys what it has made
pub record LeavesFar (slot : ℕ) (bind : ℕ → ℕ) (rooms : List Room) (w : World) (nester : Path) : Type 0 where
  pub first : IsReadyAt w (call_of nester (SpaceMakeHeld slot) no_words) → IsSameFar nester slot w (after w (call_of nester (SpaceMakeHeld slot) no_words))
  pub later : (v : World) (t : State) (stage : Stage) (words : List ℕ) → AtWork (restore slot bind rooms) nester w Makes v t
      → (restore slot bind rooms).head t ≡ Asks stage words →
      IsReadyAt v (call_of nester stage words) → IsSameFar nester slot v (after v (call_of nester stage words))

-- each of its calls leaves all that is neither in its new space nor its nester's scratch, those that destroy the new space again too
abbrev pub RestoreLeavesFar : Type 0
RestoreLeavesFar = (slot birth : ℕ) (bind : ℕ → ℕ) (c : World) (rooms : List Room) (w : World) (nester : Path) → slot ≤ LAST_USER_SLOT → IsRoomed bind c rooms
    → MayBegin w nester birth → LeavesFar slot bind rooms w nester

-- ---- its last call: the release, a stage of destroying the new space, or the first call itself

abbrev pub IsLastCall : ℕ → End → State → Stage → Type 0
IsLastCall slot Done s stage = stage ≡ SpaceRelease OWN_SPACE slot
IsLastCall slot Occupied s stage = s ≡ Makes
IsLastCall slot (NoPort port) s stage = stage ≡ Destroy OWN_SPACE slot

-- a restore's last call is its release, a stage of destroying its space, or the first call itself
abbrev pub LastCallIsKnown : Type 0
LastCallIsKnown = (slot : ℕ) (bind : ℕ → ℕ) (rooms : List Room) (s : State) (stage : Stage) (words : List ℕ) (status : ℕ) (told : List ℕ) (end : End)
    → (restore slot bind rooms).head s ≡ Asks stage words →
    (restore slot bind rooms).next s status told ≡ Over end → IsLastCall slot end s stage

-- it is told that its slot is taken exactly where it was
abbrev pub OccupiedIsExact : Type 0
OccupiedIsExact = (slot birth : ℕ) (bind : ℕ → ℕ) (c : World) (rooms : List Room) (w v : World) (nester : Path) (t : State) (end : End)
    → slot ≤ LAST_USER_SLOT → IsRoomed bind c rooms → MayBegin w nester birth →
    AtWork (restore slot bind rooms) nester w Makes v t → (restore slot bind rooms).head t ≡ Stops end
    → (end ≡ Occupied → IsSome (w.body (slot ∷ nester))) × (IsSome (w.body (slot ∷ nester)) → end ≡ Occupied)
