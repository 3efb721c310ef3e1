-- What transparency says of the entries of a scenario's jobs.
use Rattle.std.specs.Prelude.{◌≡◌, ℕ, zero, suc, ◌+◌, ◌<◌, true, List, take, drop, Option, Some, None}
use Rattle.std.specs.List.{slice_get}
use Rattle.fk_model.specs.declared.job.JobSpec.{JobSpec}
use Rattle.fk_model.specs.declared.job.JobSpec.TheVariants.{Checkpoint, Restore}
use Rattle.fk_model.specs.declared.moves.Move.{Move}
use Rattle.fk_model.specs.Places.{Path}
use Rattle.fk_model.specs.Valid.{birth_at}
use Rattle.fk_model.specs.Cut.{IsPlain}
use Rattle.fk_image.specs.declared.image.image.Image.{Image}
use Rattle.fk_image.specs.Image.Picture.{picture}
use Rattle.fk_image.specs.Image.Valid.{is_valid}
use Rattle.laws_checkpoint.specs.Checkpoint.End.{Done}
use Rattle.laws_restore.specs.Restore.Restore as restores
use Rattle.laws_restore.specs.Rooms.Restoring.{bound_by}
use Rattle.laws_runs.specs.Cores.{JobEnd, Servers, Core, IsRun, world_at}
use Rattle.laws_runs.specs.Cores.JobEnd.{Worked}
use Rattle.laws_runs.specs.Transparency.{Checkpointed, Restored as Restored_there}
use Rattle.laws_house.specs.Houses.{Job, State, End, house, maker_from, given_first, jobs_of}
use Rattle.laws_house.specs.Houses.Task.{Checkpoint as Saves}
use Rattle.laws_house.specs.Houses.End.{Checked, Restored}
use Rattle.laws_house.specs.Laws.{GoesOnAgain, IsGrounded}
use Rattle.laws_house.specs.Transparency.{IsTransparent}

-- the image that is given for the job with an index
abbrev pub given_at : ℕ → List (Option Image) → Option Image
given_at zero images = given_first images
given_at (suc index) images = given_at index (drop 1 images)

-- where a restore has its image from: an earlier job with this image has made it, or none does and it was given
pub data IsFrom (specs : List JobSpec) (images : List (Option Image)) (ends : List (JobEnd End)) (index : ℕ) (name : List ℕ) (image : Image) : Type 0 where
  Made : (from hold release : ℕ) → maker_from 0 (take index specs) name ≡ Some from → from < index
      → slice_get ends from ≡ Some (Worked (Checked (Done image)) hold release) → IsFrom specs images ends index name image
  Given : maker_from 0 (take index specs) name ≡ None → given_at index images ≡ Some image → IsFrom specs images ends index name image

-- a checkpoint that is done: its image is valid, and is what its entry's subtree was, from its hold to behind its release
abbrev pub EntriesAreSaved : Type 0 → Type 0
EntriesAreSaved V = (specs : List JobSpec) (images : List (Option Image)) (servers : Servers V) (first c : Core State End V) (past : List Move)
    (run : IsRun (house (jobs_of specs images) servers) first past c) → IsTransparent run →
    (index moment birth : ℕ) (path : List ℕ) (slot : ℕ) (name : List ℕ) (image : Image) (hold release : ℕ) →
    slice_get specs index ≡ Some (Checkpoint moment birth path slot name) → slice_get c.ends index ≡ Some (Worked (Checked (Done image)) hold release) →
    (is_valid image ≡ true) × Checkpointed run birth slot hold release (picture image)

-- a restore that is done has made its image's picture, with the ports bound as its entry says; and knows whence it had the image
abbrev pub EntriesAreMade : Type 0 → Type 0
EntriesAreMade V = (specs : List JobSpec) (images : List (Option Image)) (servers : Servers V) (first c : Core State End V) (past : List Move)
    (run : IsRun (house (jobs_of specs images) servers) first past c) → IsTransparent run →
    (index moment birth slot : ℕ) (name : List ℕ) (bind : List (ℕ × ℕ)) (make release : ℕ) →
    slice_get specs index ≡ Some (Restore moment birth slot name bind) → slice_get c.ends index ≡ Some (Worked (Restored restores.Done) make release) →
    (image : Image) × IsFrom specs images c.ends index name image × (is_valid image ≡ true)
    × Restored_there run birth slot make release (bound_by bind) (picture image)

-- and if an earlier job of the same run has made that image, what stands there has exactly the further runs of what was saved
abbrev pub EntriesGoOn : Type 0 → Type 0
EntriesGoOn V = (specs : List JobSpec) (images : List (Option Image)) (servers : Servers V) (first c : Core State End V) (past : List Move)
    (run : IsRun (house (jobs_of specs images) servers) first past c) → IsTransparent run →
    (from index moment birth : ℕ) (path : List ℕ) (slot : ℕ) (made : List ℕ) (later other place : ℕ) (name : List ℕ) (bind : List (ℕ × ℕ)) (image : Image)
    (hold release make done : ℕ) →
    slice_get specs from ≡ Some (Checkpoint moment birth path slot made) → slice_get c.ends from ≡ Some (Worked (Checked (Done image)) hold release) →
    slice_get specs index ≡ Some (Restore later other place name bind) → slice_get c.ends index ≡ Some (Worked (Restored restores.Done) make done) →
    maker_from 0 (take index specs) name ≡ Some from → from < index →
    GoesOnAgain birth slot (world_at run hold) other place (world_at run make) (world_at run (done + 1)) (bound_by bind)

-- what was saved was plain at its hold: so from there on too, as `IsTransparent` says of a plain subtree, what it sees of the history, up to
-- the first move that it sees as other, is a further run of it
abbrev pub SavedIsPlain : Type 0 → Type 0
SavedIsPlain V = (jobs : List Job) (servers : Servers V) (first c : Core State End V) (past : List Move) (run : IsRun (house jobs servers) first past c) →
    IsGrounded jobs servers first past → (index : ℕ) (j : Job) (slot hold release : ℕ) (image : Image) → slice_get jobs index ≡ Some j →
    j.task ≡ Saves slot → slice_get c.ends index ≡ Some (Worked (Checked (Done image)) hold release) → (nester : Path) →
    birth_at (world_at run hold) nester ≡ Some j.nester → IsPlain (world_at run hold) nester slot

-- a saved subtree was plain at its hold, so that from there on the history's moves that it sees are a further run of it
abbrev pub EntriesArePlain : Type 0 → Type 0
EntriesArePlain V = (specs : List JobSpec) (images : List (Option Image)) (servers : Servers V) (first c : Core State End V) (past : List Move)
    (run : IsRun (house (jobs_of specs images) servers) first past c) → IsGrounded (jobs_of specs images) servers first past →
    (index moment birth : ℕ) (path : List ℕ) (slot : ℕ) (name : List ℕ) (image : Image) (hold release : ℕ) →
    slice_get specs index ≡ Some (Checkpoint moment birth path slot name) → slice_get c.ends index ≡ Some (Worked (Checked (Done image)) hold release) →
    (nester : Path) → birth_at (world_at run hold) nester ≡ Some birth → IsPlain (world_at run hold) nester slot
