-- A restore of which only the release is left: its copy stands, held, and can be destroyed again. Nothing is bound.
use Rattle.std.specs.Prelude.{◌≡◌, ℕ, [], ◌∷◌, List, Some}
use Rattle.fk_model.specs.declared.limits.TheConstants.{LAST_PORTER_SLOT}
use Rattle.fk_model.specs.declared.stage.Stage.{Stage}
use Rattle.fk_model.specs.Places.{Path}
use Rattle.fk_model.specs.Places.Ptr.{At}
use Rattle.fk_model.specs.Cut.{cut}
use Rattle.fk_model.specs.Holds.{holder_of}
use Rattle.fk_model.specs.Rebind.{rebound}
use Rattle.fk_model.specs.World.{World}
use Rattle.fk_image.specs.declared.image.image.Image.{Image}
use Rattle.fk_image.specs.Image.Picture.{picture}
use Rattle.laws_jobs.specs.Jobs.{MayBegin}
use Rattle.laws_jobs.specs.Machines.{AtWork}
use Rattle.laws_jobs.specs.Machines.Head.{Asks}
use Rattle.laws_restore.specs.Restore.Restore.{State}
use Rattle.laws_restore.specs.Restore.Restore.State.{Makes, Works}
use Rattle.laws_restore.specs.Rooms.Restoring.{bound_by, restore_of, IsRestoreJob}
use Rattle.laws_migrate.specs.Clearing.{MayClear}

-- a subtree whose ports are bound to themselves is that subtree
abbrev pub UnboundIsSame : Type 0
UnboundIsSame = (c : World) → rebound (bound_by []) c ≡ c

pub record Built (nester : Path) (slot : ℕ) (image : Image) (v : World) : Type 0 where
  pub number : ℕ
  pub same : cut v nester slot ≡ picture image
  pub may_clear : MayClear nester slot number (picture image) v

-- where only the release is left of a restore its copy stands, held, and such as its porter can destroy
abbrev pub BuiltIsCopy : Type 0
BuiltIsCopy = (slot birth : ℕ) (image : Image) (w v : World) (nester : Path) → IsRestoreJob slot image [] → MayBegin w nester birth →
    AtWork (restore_of slot image []) nester w Makes v (Works []) → Built nester slot image v

-- from its first call on, while it has one to make, the porter holds what stands in the slot
abbrev pub MadeIsHeld : Type 0
MadeIsHeld = (slot birth : ℕ) (image : Image) (w v : World) (nester : Path) (t : State) (stage : Stage) (words : List ℕ) → IsRestoreJob slot image [] →
    MayBegin w nester birth → AtWork (restore_of slot image []) nester w Makes v t → (restore_of slot image []).head t ≡ Asks stage words →
    holder_of (v.body (slot ∷ nester)) ≡ Some (At (LAST_PORTER_SLOT ∷ nester))
