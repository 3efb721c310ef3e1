-- What a checkpoint is for the run in which it works, and what it ends with.
use Rattle.std.specs.Prelude.{◌≡◌, ℕ, ◌≤◌, true, false, List, Option, Some, None, option_map, [], ◌∷◌}
use Rattle.fk_model.specs.declared.limits.TheConstants.{LAST_USER_SLOT}
use Rattle.fk_model.specs.declared.stage.Stage.{Stage}
use Rattle.fk_model.specs.Places.{Path, same_path}
use Rattle.fk_model.specs.Holds.{holder_of}
use Rattle.fk_model.specs.ObjectRows.{is_scratch}
use Rattle.fk_model.specs.Runs.{after}
use Rattle.fk_model.specs.World.{World}
use Rattle.fk_model.specs.Closed.{IsClosed, open_place}
use Rattle.fk_model.specs.Cut.{cut, unheld}
use Rattle.fk_model.specs.Sound.{IsUncut}
use Rattle.fk_image.specs.declared.image.image.Image.{Image}
use Rattle.fk_image.specs.Image.Picture.{picture}
use Rattle.fk_image.specs.Image.Valid.{is_valid}
use Rattle.laws_subtrees.specs.Further.ClosedLaws.{IsUsersAlone}
use Rattle.laws_jobs.specs.Machines.{call_of, IsReadyAt, AtWork}
use Rattle.laws_jobs.specs.Machines.Head.{Stops, Asks}
use Rattle.laws_jobs.specs.Jobs.{MayBegin, MeetsContract, Saves}
use Rattle.laws_jobs.specs.Holds.{hold, IsSpaceAt}
use Rattle.laws_jobs.specs.Calls.{IsUnheldOutside}
use Rattle.laws_moves.specs.Savable.Savable.{IsSound}
use Rattle.laws_checkpoint.specs.Checkpoint.{End, State, checkpoint}
use Rattle.laws_checkpoint.specs.Checkpoint.End.{Gone, Foreign, Done}
use Rattle.laws_checkpoint.specs.Checkpoint.State.{Holds}

-- its calls are owed, its porter stays, and at its end no scratch is left
abbrev pub CheckpointMeetsContract : Type 0
CheckpointMeetsContract = (slot birth : ℕ) → slot ≤ LAST_USER_SLOT → MeetsContract (checkpoint slot) birth Holds

-- from its hold to behind its release the subtree's cut is what it was
abbrev pub CheckpointKeepsCut : Type 0
CheckpointKeepsCut = (slot birth : ℕ) (w v : World) (nester : Path) (t : State) → slot ≤ LAST_USER_SLOT → MayBegin w nester birth →
    AtWork (checkpoint slot) nester w Holds v t → cut v nester slot ≡ cut w nester slot

-- how it ends is what the slot held when it began: no space, one that isn't closed and the first place that says so, or one that is
abbrev pub EndsAsItWas : World → Path → ℕ → End → Type 0
EndsAsItWas w nester slot Gone = IsSpaceAt w (slot ∷ nester) → ⊥
EndsAsItWas w nester slot (Foreign place) = IsSpaceAt w (slot ∷ nester) × (open_place w nester slot ≡ Some place)
EndsAsItWas w nester slot (Done image) = IsSpaceAt w (slot ∷ nester) × IsClosed w nester slot

-- a checkpoint ends as the subtree was when it began: no space in the slot; not closed, and the first place that says so; or closed
abbrev pub CheckpointEndsAsItWas : Type 0
CheckpointEndsAsItWas = (slot birth : ℕ) (w v : World) (nester : Path) (t : State) (end : End) → slot ≤ LAST_USER_SLOT → MayBegin w nester birth →
    AtWork (checkpoint slot) nester w Holds v t → (checkpoint slot).head t ≡ Stops end → EndsAsItWas w nester slot end

-- what it wants besides of the world in which it begins: it is nobody's cut, and no porter and no served port lies inside
pub record MaySave (w : World) (nester : Path) (slot : ℕ) : Type 0 where
  pub uncut : IsUncut w
  pub users : IsUsersAlone w nester slot

-- the image with which it is done is valid, and its picture is the subtree as it was when it began
abbrev pub CheckpointImagesSubtree : Type 0
CheckpointImagesSubtree = (slot birth : ℕ) (w v : World) (nester : Path) (t : State) (image : Image) → slot ≤ LAST_USER_SLOT → MayBegin w nester birth →
    MaySave w nester slot → AtWork (checkpoint slot) nester w Holds v t → (checkpoint slot).head t ≡ Stops (Done image) →
    (is_valid image ≡ true) × (picture image ≡ cut w nester slot)

abbrev pub picture_of : End → Option World
picture_of Gone = None
picture_of (Foreign place) = None
picture_of (Done image) = Some (picture image)

-- so it is what a run wants of a checkpoint
abbrev pub CheckpointSaves : Type 0
CheckpointSaves = (slot birth : ℕ) (w : World) (nester : Path) → slot ≤ LAST_USER_SLOT → MaySave w nester slot
    → Saves (checkpoint slot) birth slot picture_of w nester Holds

-- ---- its calls

-- its next call is ready wherever nothing outside is held
abbrev pub CheckpointIsReady : Type 0
CheckpointIsReady = (slot birth : ℕ) (w v : World) (nester : Path) (t : State) (stage : Stage) (words : List ℕ) → slot ≤ LAST_USER_SLOT
    → MayBegin w nester birth →
    AtWork (checkpoint slot) nester w Holds v t → (checkpoint slot).head t ≡ Asks stage words → IsUnheldOutside (slot ∷ nester) v
    → IsReadyAt v (call_of nester stage words)

-- all but the porter's scratch and who holds the root
pub record IsSameBeside (nester : Path) (slot : ℕ) (v u : World) : Type 0 where
  pub bodies : (y : Path) → is_scratch nester y ≡ false → same_path y (slot ∷ nester) ≡ false → u.body y ≡ v.body y
  -- the root is the same but for its holder
  pub root : option_map (unheld []) (u.body (slot ∷ nester)) ≡ option_map (unheld []) (v.body (slot ∷ nester))
  pub pages : (y : Path) (page : ℕ) → u.page y page ≡ v.page y page
  -- and no birth number is taken
  pub next : u.next ≡ v.next

-- each of its calls leaves the rest, the first one and each later one
pub record LeavesRest (slot birth : ℕ) (w : World) (nester : Path) : Type 0 where
  pub first : IsReadyAt w (hold nester slot) → IsSameBeside nester slot w (after w (hold nester slot))
  pub later : (v : World) (t : State) (stage : Stage) (words : List ℕ) → AtWork (checkpoint slot) nester w Holds v t
      → (checkpoint slot).head t ≡ Asks stage words →
      IsSound v → IsReadyAt v (call_of nester stage words) → IsSameBeside nester slot v (after v (call_of nester stage words))
  -- and at its end, whatever it comes to where there was a space, nobody holds that
  pub ends : (v : World) (t : State) (end : End) → AtWork (checkpoint slot) nester w Holds v t → (checkpoint slot).head t ≡ Stops end
      → IsSpaceAt w (slot ∷ nester) →
      holder_of (v.body (slot ∷ nester)) ≡ None

-- each call of a checkpoint leaves all but its scratch and who holds the subtree's root, and at its end nobody holds that
abbrev pub CheckpointLeavesRest : Type 0
CheckpointLeavesRest = (slot birth : ℕ) (w : World) (nester : Path) → slot ≤ LAST_USER_SLOT → MayBegin w nester birth → IsSound (after w (hold nester slot))
    → LeavesRest slot birth w nester
