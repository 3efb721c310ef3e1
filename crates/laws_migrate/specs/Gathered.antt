-- A checkpoint of which only the release is left: its image is gathered, the subtree is closed and held, and it can be destroyed.
use Rattle.std.specs.Prelude.{◌≡◌, ℕ, ◌≤◌, true, ◌∷◌, List, Some}
use Rattle.fk_model.specs.declared.limits.TheConstants.{LAST_USER_SLOT, LAST_PORTER_SLOT}
use Rattle.fk_model.specs.declared.stage.Stage.{Stage}
use Rattle.fk_model.specs.Places.{Path}
use Rattle.fk_model.specs.Places.Ptr.{At}
use Rattle.fk_model.specs.Closed.{IsClosed}
use Rattle.fk_model.specs.Cut.{cut}
use Rattle.fk_model.specs.Holds.{holder_of}
use Rattle.fk_model.specs.Valid.{birth_at}
use Rattle.fk_model.specs.World.{World}
use Rattle.fk_image.specs.declared.image.image.Image.{Image}
use Rattle.fk_image.specs.Image.Picture.{picture}
use Rattle.fk_image.specs.Image.Valid.{is_valid}
use Rattle.laws_jobs.specs.Jobs.{MayBegin}
use Rattle.laws_jobs.specs.Machines.{AtWork}
use Rattle.laws_jobs.specs.Machines.Head.{Asks}
use Rattle.laws_checkpoint.specs.Checkpoint.{State, checkpoint}
use Rattle.laws_checkpoint.specs.Checkpoint.End.{Done}
use Rattle.laws_checkpoint.specs.Checkpoint.State.{Holds, Releases}
use Rattle.laws_checkpoint.specs.Laws.{MaySave}
use Rattle.laws_migrate.specs.Clearing.{MayClear}

-- the porter holds what stands in the slot, and this is its number
pub record IsHeldHere (nester : Path) (slot birth : ℕ) (v : World) : Type 0 where
  pub named : birth_at v (slot ∷ nester) ≡ Some birth
  pub holder : holder_of (v.body (slot ∷ nester)) ≡ Some (At (LAST_PORTER_SLOT ∷ nester))

pub record Gathered (w : World) (nester : Path) (slot number : ℕ) (image : Image) (v : World) : Type 0 where
  pub valid : is_valid image ≡ true
  pub pictured : picture image ≡ cut w nester slot
  pub closed : IsClosed w nester slot
  pub same : cut v nester slot ≡ cut w nester slot
  pub may_clear : MayClear nester slot number (picture image) v

-- where only the release is left of a checkpoint that will be done, its image is valid and is the picture of the subtree at the hold, which is closed, as it
-- was, held, and such as its porter can destroy
abbrev pub GatheredImageIsSubtree : Type 0
GatheredImageIsSubtree = (slot birth number : ℕ) (w v : World) (nester : Path)
    (image : Image) → slot ≤ LAST_USER_SLOT → MayBegin w nester birth → MaySave w nester slot →
    birth_at w (slot ∷ nester) ≡ Some number → AtWork (checkpoint slot) nester w Holds v (Releases (Done image)) → Gathered w nester slot number image v

-- from its first call on, while it has one to make, the porter holds the very space that stood in the slot
abbrev pub SavedIsHeld : Type 0
SavedIsHeld = (slot birth number : ℕ) (w v : World) (nester : Path) (t : State) (stage : Stage)
    (words : List ℕ) → slot ≤ LAST_USER_SLOT → MayBegin w nester birth →
    birth_at w (slot ∷ nester) ≡ Some number → AtWork (checkpoint slot) nester w Holds v t → (checkpoint slot).head t ≡ Asks stage words →
    IsHeldHere nester slot number v
