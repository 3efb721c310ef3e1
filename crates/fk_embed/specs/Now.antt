-- What a save and a restore in a host come to, from their first call to their last, and that a copy goes on as the original could.
use Rattle.std.specs.Prelude.{◌≡◌, ℕ, true, List, ◌∷◌, None}
use Rattle.fk_image.specs.declared.image.image.Image.{Image}
use Rattle.fk_image.specs.Image.Picture.{picture}
use Rattle.fk_image.specs.Image.Valid.{is_valid}
use Rattle.fk_jobs.specs.declared.ended.Finish.{Finish}
use Rattle.fk_jobs.specs.Ended.{finish_of}
use Rattle.fk_model.specs.Cut.{cut, IsPlain}
use Rattle.fk_model.specs.Further.{Onward}
use Rattle.fk_model.specs.Holds.{holder_of}
use Rattle.fk_model.specs.Places.{Path}
use Rattle.fk_model.specs.Sound.{IsClean}
use Rattle.fk_model.specs.World.{World}
use Rattle.laws_checkpoint.specs.Checkpoint as checkpoints
use Rattle.laws_checkpoint.specs.Laws.{EndsAsItWas, MaySave}
use Rattle.laws_house.specs.Houses.End.{Checked, Restored}
use Rattle.laws_jobs.specs.Holds.{IsSpaceAt}
use Rattle.laws_moves.specs.Savable.Savable.{IsSound}
use Rattle.laws_restore.specs.Restore.Ends.{EndsSo}
use Rattle.laws_restore.specs.Restore.Restore as restores
use Rattle.laws_restore.specs.Rooms.Restoring.{bound_by}
use Rattle.laws_runs.specs.Onwards.{GoesOnAs}

-- a save of the subtree in a slot of a nester, begun in one world and ended in another
pub record IsSaved (nester : Path) (slot : ℕ) (w v : World) (end : checkpoints.End) : Type 0 where
  -- how it ends is what the slot held when it began: no space, one that isn't closed and the first place that says so, or one that is
  pub ends : EndsAsItWas w nester slot end
  -- where it is done its image is valid, and its picture is the subtree as it was. No porter and no served port lies inside, and the world is nobody's cut
  pub saves : (image : Image) → end ≡ checkpoints.Done image → MaySave w nester slot → (is_valid image ≡ true) × (picture image ≡ cut w nester slot)
  -- the subtree is as before, and nobody holds it
  pub same : cut v nester slot ≡ cut w nester slot
  pub unheld : IsSpaceAt w (slot ∷ nester) → holder_of (v.body (slot ∷ nester)) ≡ None
  -- and the next job may begin
  pub sound : IsSound v
  pub clean : IsClean v

-- a restore of an image in a slot of a nester, with its outward slots bound by pairs, likewise
pub record IsRestored (nester : Path) (slot : ℕ) (pairs : List (ℕ × ℕ)) (image : Image) (w v : World) (end : restores.End) : Type 0 where
  -- the slot was empty and the image's picture stands there, unheld, with its ports bound; it was taken, and nothing is changed; or nothing stands there again
  pub ends : EndsSo w v nester slot (bound_by pairs) (picture image) end
  pub plain : end ≡ restores.Done → IsPlain v nester slot
  pub sound : IsSound v
  pub clean : IsClean v

-- a save has ended so, as checkpoints do
pub record Saves (nester : Path) (slot : ℕ) (w v : World) (finish : Finish) : Type 0 where
  pub end : checkpoints.End
  pub is : finish_of finish ≡ Checked end
  pub its : IsSaved nester slot w v end

-- a restore has ended so, as restores do
pub record Restores (nester : Path) (slot : ℕ) (pairs : List (ℕ × ℕ)) (image : Image) (w v : World) (finish : Finish) : Type 0 where
  pub end : restores.End
  pub is : finish_of finish ≡ Restored end
  pub its : IsRestored nester slot pairs image w v end

-- what was restored of an image goes on exactly as the saved subtree could, its ports bound
abbrev pub CopyGoesOn : Type 0
CopyGoesOn = (nester other : Path) (slot place : ℕ) (pairs : List (ℕ × ℕ)) (image : Image) (w v u x : World) → IsSound w → MaySave w nester slot
    → IsSaved nester slot w v (checkpoints.Done image) → IsRestored other place pairs image u x restores.Done → (ms : List Onward)
    → GoesOnAs (bound_by pairs) (cut w nester slot) (cut x other place) ms
