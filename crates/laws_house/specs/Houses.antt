-- The house of a scenario's jobs: checkpoints and restores, one after the other in the order of the file, each a machine of its own.
use Rattle.std.specs.Prelude.{ℕ, ◌+◌, List, [], ◌∷◌, ◌++◌, drop, Option, Some, None, option_map, if◌then◌else◌}
use Rattle.std.specs.List.{slice_get}
use Rattle.fk_model.specs.declared.job.JobSpec.{JobSpec}
use Rattle.fk_model.specs.declared.job.JobSpec.TheVariants as specs_of
use Rattle.fk_image.specs.declared.image.image.Image.{Image}
use Rattle.fk_image.specs.Image.Valid.{is_valid}
use Rattle.laws_jobs.specs.Machines.{Head, Machine}
use Rattle.laws_jobs.specs.Machines.Head.{Stops, Asks}
use Rattle.laws_checkpoint.specs.Checkpoint as checkpoints
use Rattle.laws_checkpoint.specs.Checkpoint.{checkpoint}
use Rattle.laws_checkpoint.specs.Checkpoint.End.{Done}
use Rattle.laws_checkpoint.specs.Checkpoint.State.{Holds}
use Rattle.laws_restore.specs.Restore.Restore as restores
use Rattle.laws_restore.specs.Restore.Restore.State.{Makes}
use Rattle.laws_restore.specs.Rooms.Restoring.{restore_of}
use Rattle.laws_runs.specs.Cores.{JobEnd, Servers, House}
use Rattle.laws_runs.specs.Cores.JobEnd.{Worked}
pub use Rattle.fk_model.specs.Jobs.{makes_image}

-- ---- jobs

-- where the image of a restore comes from: it was given, or the job with this place in the file makes it
pub data Source : Type 0 where
  Given : (image : Option Image) → Source
  MadeBy : (job : ℕ) → Source

pub data Task : Type 0 where
  -- of the subtree in a slot
  Checkpoint : (slot : ℕ) → Task
  -- in a slot, with outward slots bound to slots of the nester by pairs
  Restore : (slot : ℕ) (pairs : List (ℕ × ℕ)) (source : Source) → Task

-- its nester's birth number, and from when on it may begin
pub record Job : Type 0 where
  pub nester : ℕ
  pub at : ℕ
  pub task : Task

-- ---- their states and ends

pub data State : Type 0 where
  Checking : (slot : ℕ) (s : checkpoints.State) → State
  Restoring : (slot : ℕ) (pairs : List (ℕ × ℕ)) (image : Image) (s : restores.State) → State

pub data End : Type 0 where
  Checked : (end : checkpoints.End) → End
  Restored : (end : restores.End) → End

-- ---- the machine

abbrev pub ends_as : {A B : Type 0} → (A → B) → Head A → Head B
ends_as made (Asks stage words) = Asks stage words
ends_as made (Stops end) = Stops (made end)

abbrev pub head : State → Head End
head (Checking slot s) = ends_as Checked ((checkpoint slot).head s)
head (Restoring slot pairs image s) = ends_as Restored ((restore_of slot image pairs).head s)

abbrev pub next : State → ℕ → List ℕ → State
next (Checking slot s) status words = Checking slot ((checkpoint slot).next s status words)
next (Restoring slot pairs image s) status words = Restoring slot pairs image ((restore_of slot image pairs).next s status words)

abbrev pub machine : Machine State End
machine = record { head = head; next = next }

-- ---- how they begin

-- the image with which a job is done
abbrev pub image_of_end : End → Option Image
image_of_end (Checked (Done image)) = Some image
image_of_end other = None

-- the image that a job has made, by how it has ended
abbrev pub image_made : Option (JobEnd End) → Option Image
image_made (Some (Worked end begun last)) = image_of_end end
image_made other = None

abbrev pub sourced : List (JobEnd End) → Source → Option Image
sourced ends (Given image) = image
sourced ends (MadeBy job) = image_made (slice_get ends job)

-- no other image can be made again. Each that a checkpoint makes is such
abbrev pub valid_one : Option Image → Option Image
valid_one None = None
valid_one (Some image) = if is_valid image then Some image else None

abbrev pub begins_by : Task → List (JobEnd End) → Option State
begins_by (Checkpoint slot) ends = Some (Checking slot Holds)
begins_by (Restore slot pairs source) ends = option_map (λ image. Restoring slot pairs image Makes) (valid_one (sourced ends source))

abbrev pub begins : Job → List (JobEnd End) → Option State
begins j ends = begins_by j.task ends

-- with native servers of any sort
abbrev pub house : {V : Type 0} → List Job → Servers V → House Job State End V
house jobs servers = record {
  jobs = jobs;
  machine = machine;
  nester = λ (j : Job). j.nester;
  at = λ (j : Job). j.at;
  begins = begins;
  servers = servers;
}

-- ---- a scenario's jobs

-- the place of the job that makes an image, where the first of these has place n
unfoldable pub maker_from : ℕ → List JobSpec → List ℕ → Option ℕ
maker_from n [] image = None
maker_from n (j ∷ js) image = if makes_image image j then Some n else maker_from (n + 1) js image

-- what no earlier job makes was given
abbrev pub source_of : Option ℕ → Option Image → Source
source_of (Some job) given = MadeBy job
source_of None given = Given given

-- a job behind those before it, and the image that was given for it
abbrev pub job_of : List JobSpec → JobSpec → Option Image → Job
job_of before (specs_of.Checkpoint moment nester path slot image) given = record { nester = nester; at = moment; task = Checkpoint slot }
job_of before (specs_of.Restore moment nester slot image bind) given =
    record { nester = nester; at = moment; task = Restore slot bind (source_of (maker_from 0 before image) given) }

abbrev pub given_first : List (Option Image) → Option Image
given_first [] = None
given_first (image ∷ images) = image

-- one image is given for each job, or none
unfoldable pub jobs_from : List JobSpec → List JobSpec → List (Option Image) → List Job
jobs_from before [] images = []
jobs_from before (j ∷ js) images = job_of before j (given_first images) ∷ jobs_from (before ++ j ∷ []) js (drop 1 images)

-- the jobs of a scenario, with the images that its files hold
abbrev pub jobs_of : List JobSpec → List (Option Image) → List Job
jobs_of specs images = jobs_from [] specs images
