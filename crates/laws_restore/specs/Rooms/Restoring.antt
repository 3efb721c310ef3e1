-- The restore of an image in a slot, with the nester's ports bound to others: the machine over the image's rooms.
use Rattle.std.specs.Prelude.{◌≡◌, ℕ, ◌+◌, ◌*◌, ◌≤◌, true, ◌==◌, List, [], ◌∷◌, if◌then◌else◌}
use Rattle.fk_model.specs.declared.limits.TheConstants.{LAST_USER_SLOT}
use Rattle.fk_model.specs.declared.stage.Stage.{Stage}
use Rattle.fk_model.specs.Places.{Path}
use Rattle.fk_model.specs.World.{World}
use Rattle.fk_model.specs.Sound.{are_user_pairs}
use Rattle.fk_image.specs.declared.image.image.Image.{Image}
use Rattle.fk_image.specs.Image.Picture.{picture}
use Rattle.fk_image.specs.Image.Valid.{is_valid}
use Rattle.laws_jobs.specs.Machines.{Machine, AtWork, calls_made, LiesWithin, IsOwedCall}
use Rattle.laws_jobs.specs.Machines.Head.{Stops, Asks}
use Rattle.laws_jobs.specs.Jobs.{MayBegin, Restores}
use Rattle.laws_restore.specs.Restore.Restore.{End, State, restore, is_done}
use Rattle.laws_restore.specs.Restore.Restore.State.{Makes}
use Rattle.laws_restore.specs.Restore.Ends.{EndsSo}
use Rattle.laws_restore.specs.Restore.Bounded.{count_of}
use Rattle.laws_restore.specs.Rooms.Rooms.{rooms_of}

-- where a slot of the nester is bound by pairs: to itself, if none names it
abbrev pub bound_by : List (ℕ × ℕ) → ℕ → ℕ
bound_by [] slot = slot
bound_by (pair ∷ pairs) slot = if pair.0 == slot then pair.1 else bound_by pairs slot

-- the machine of a job is determined by its slot, its image and its pairs
abbrev pub restore_of : ℕ → Image → List (ℕ × ℕ) → Machine State End
restore_of slot i pairs = restore slot (bound_by pairs) (rooms_of i)

-- a job of a run: a user's slot, pairs of users' slots, a valid image
pub record IsRestoreJob (slot : ℕ) (i : Image) (pairs : List (ℕ × ℕ)) : Type 0 where
  pub low : slot ≤ LAST_USER_SLOT
  pub users : are_user_pairs pairs ≡ true
  pub valid : is_valid i ≡ true

-- done, it leaves a plain subtree that is the image's picture with its ports bound
abbrev pub ImageIsRestored : Type 0
ImageIsRestored = (slot birth : ℕ) (i : Image) (pairs : List (ℕ × ℕ)) (w : World) (nester : Path) → IsRestoreJob slot i pairs
    → Restores (restore_of slot i pairs) birth slot (bound_by pairs) (picture i) is_done w nester Makes

-- a restore of a valid image ends so: the subtree stands unheld where nothing stood; its slot was taken and nothing was done; or a port was missing
abbrev pub ImageRestoreEndsSo : Type 0
ImageRestoreEndsSo = (slot birth : ℕ) (i : Image) (pairs : List (ℕ × ℕ)) (w v : World) (nester : Path) (t : State) (end : End) → IsRestoreJob slot i pairs
    → MayBegin w nester birth →
    AtWork (restore_of slot i pairs) nester w Makes v t → (restore_of slot i pairs).head t ≡ Stops end → EndsSo w v nester slot (bound_by pairs) (picture i) end

-- each of its calls is owed
abbrev pub ImageRestoreIsOwed : Type 0
ImageRestoreIsOwed = (slot birth : ℕ) (i : Image) (pairs : List (ℕ × ℕ)) (w : World) (nester : Path) → IsRestoreJob slot i pairs → MayBegin w nester birth →
    ((stage : Stage) (words : List ℕ) → (restore_of slot i pairs).head Makes ≡ Asks stage words → IsOwedCall w nester stage words) ×
    ((v : World) (t : State) → AtWork (restore_of slot i pairs) nester w Makes v t → (stage : Stage) (words : List ℕ)
    → (restore_of slot i pairs).head t ≡ Asks stage words → IsOwedCall v nester stage words)

-- in every run, however it ends
abbrev pub ImageRestoreIsBounded : Type 0
ImageRestoreIsBounded = (slot : ℕ) (i : Image) (pairs : List (ℕ × ℕ)) (d : ℕ) (w v : World) (nester : Path) (t : State) → IsRestoreJob slot i pairs
    → LiesWithin (picture i) d →
    (work : AtWork (restore_of slot i pairs) nester w Makes v t) → calls_made work ≤ 40 * ((count_of (rooms_of i) + 1) * (d + 1))
