-- The laws of restores, for the restore of a valid image.
use Rattle.std.proofs.Common.{◌≡◌, ℕ, ◌≤◌, Bool, true, false, cond, leb, ◌&&◌, ◌==◌, List, [], ◌∷◌}
use Rattle.std.proofs.lemmas.Bool.{and_parts, leb-true}
use Rattle.fk_model.specs.declared.limits.TheConstants.{LAST_USER_SLOT}
use Rattle.fk_model.specs.Sound.{are_user_pairs}
use Rattle.fk_image.specs.declared.image.image.Image.{Image}
use Rattle.fk_image.specs.Image.Picture.{picture}
use Rattle.laws_restore.specs.Restore.Roomed.{IsRoomed}
use Rattle.laws_restore.proofs.InRestore.Coming.{restores, ends_so}
use Rattle.laws_restore.proofs.InRestore.Owing.{is_owed}
use Rattle.laws_restore.proofs.InRestore.Bounds.{restore_is_bounded}
use Rattle.laws_restore.specs.Rooms.Rooms.{IsBinding, rooms_of}
use Rattle.laws_restore.specs.Rooms.Restoring.{bound_by, IsRestoreJob, ImageIsRestored, ImageRestoreEndsSo, ImageRestoreIsOwed, ImageRestoreIsBounded}
use Rattle.laws_restore.proofs.InRooms.Roomed.{valid_is_roomed}

pub pairs_bind : (pairs : List (ℕ × ℕ)) → are_user_pairs pairs ≡ true → IsBinding (bound_by pairs)
pairs_bind [] e slot low = low
pairs_bind (pair ∷ pairs) e slot low =
    let both = and_parts (leb pair.0 LAST_USER_SLOT && leb pair.1 LAST_USER_SLOT) (are_user_pairs pairs) e in
    let users = and_parts (leb pair.0 LAST_USER_SLOT) (leb pair.1 LAST_USER_SLOT) both.0 in
    by (pair.0 == slot) (leb-true pair.1 LAST_USER_SLOT users.1) (pairs_bind pairs both.1 slot low)
  where
    by : (b : Bool) → pair.1 ≤ LAST_USER_SLOT → bound_by pairs slot ≤ LAST_USER_SLOT → cond b pair.1 (bound_by pairs slot) ≤ LAST_USER_SLOT
    by true here there = here
    by false here there = there

pub roomed : (slot : ℕ) (i : Image) (pairs : List (ℕ × ℕ)) → IsRestoreJob slot i pairs → IsRoomed (bound_by pairs) (picture i) (rooms_of i)
roomed slot i pairs job = valid_is_roomed (bound_by pairs) i (pairs_bind pairs job.users) job.valid

pub image_is_restored : ImageIsRestored
image_is_restored slot birth i pairs w nester job = restores slot birth (bound_by pairs) (picture i) (rooms_of i) w nester job.low (roomed slot i pairs job)

pub image_restore_ends_so : ImageRestoreEndsSo
image_restore_ends_so slot birth i pairs w v nester t end job begins work stops = ends_so slot birth (bound_by pairs) (picture i)
    (rooms_of i) w v nester t end job.low (roomed slot i pairs job) begins work stops

pub image_restore_is_owed : ImageRestoreIsOwed
image_restore_is_owed slot birth i pairs w nester job begins = is_owed slot birth (bound_by pairs) (picture i) (rooms_of i) w nester job.low
    (roomed slot i pairs job) begins

pub image_restore_is_bounded : ImageRestoreIsBounded
image_restore_is_bounded slot i pairs d w v nester t job deep work = restore_is_bounded slot (bound_by pairs) (picture i) (rooms_of i) d w v nester t
    (roomed slot i pairs job) deep work
