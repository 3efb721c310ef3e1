-- The images of the shelf that a scenario's jobs need.
use Rattle.std.specs.Prelude.{◌≡◌, ◌⊎◌, ℕ, List, [], ◌∷◌, ◌++◌, Option, Some, None, Result, Ok, Err, IsSome}
use Rattle.std.specs.Bool.{OnFalse}
use Rattle.fk_causes.specs.Shelf.{FileMap, HasAt}
use Rattle.fk_commands.specs.declared.status.Status.{Status}
use Rattle.fk_commands.specs.declared.status.Status.TheVariants.{Absent, BadImage}
use Rattle.fk_commands.specs.Files.{image_name}
use Rattle.fk_commands.specs.Status.{was_cut_short}
use Rattle.fk_image.specs.declared.image.image.Image.{Image}
use Rattle.fk_image.specs.Format.Reading.{image_reading}
use Rattle.fk_model.specs.declared.job.JobSpec.{JobSpec}
use Rattle.fk_model.specs.declared.job.JobSpec.TheVariants.{Checkpoint, Restore}
use Rattle.laws_house.specs.Houses.{maker_from}

-- a name for which no job is the maker
abbrev pub unmade : List ℕ → Option ℕ → Option (List ℕ)
unmade image None = Some image
unmade image (Some job) = None

-- the name of the image that a job behind others needs of the shelf: a restore whose image none of them makes
abbrev pub needed : List JobSpec → JobSpec → Option (List ℕ)
needed before (Checkpoint moment nester path slot image) = None
needed before (Restore moment nester slot image bind) = unmade image (maker_from 0 before image)

-- the image that the bytes of a file are, or their first fault
abbrev pub read_bytes : List ℕ → Result Image (ℕ × ℕ) → Result (Option Image) Status
read_bytes name (Ok image) = Ok (Some image)
read_bytes name (Err fault) = Err (BadImage name fault.0 fault.1)

-- what is read of a file under the name of an image, which may not be there
abbrev pub read_file : List ℕ → Option (List ℕ) → Result (Option Image) Status
read_file name None = Err (Absent name)
read_file name (Some bytes) = read_bytes name (image_reading bytes)

-- what the shelf has under the name that is needed, if one is
abbrev pub Finds : Option FileMap → Option (List ℕ) → Result (Option Image) Status → Type 0
Finds files None found = found ≡ Ok None
Finds files (Some name) found = (file : Option (List ℕ)) × HasAt files (image_name name) file × (found ≡ read_file name file)

-- what it has for jobs behind others, in their order: for each an image or none, or the first refusal
pub data FindsImages (files : Option FileMap) : List JobSpec → List JobSpec → Result (List (Option Image)) Status → Type 0 where
  NoJob : (before : List JobSpec) → FindsImages files before [] (Ok [])
  Found : (before : List JobSpec) (job : JobSpec) (jobs : List JobSpec) (image : Option Image) (images : List (Option Image)) →
      Finds files (needed before job) (Ok image) → FindsImages files (before ++ job ∷ []) jobs (Ok images)
      → FindsImages files before (job ∷ jobs) (Ok (image ∷ images))
  Refused : (before : List JobSpec) (job : JobSpec) (jobs : List JobSpec) (status : Status) →
      Finds files (needed before job) (Err status) → FindsImages files before (job ∷ jobs) (Err status)
  Later : (before : List JobSpec) (job : JobSpec) (jobs : List JobSpec) (image : Option Image) (status : Status) →
      Finds files (needed before job) (Ok image) → FindsImages files (before ++ job ∷ []) jobs (Err status) → FindsImages files before (job ∷ jobs) (Err status)

-- unless the outside or the memory failed
abbrev pub UnlessFailed : Status → Type 0 → Type 0
UnlessFailed status Is = OnFalse (was_cut_short status) Is

-- one of the jobs behind others needs an image
abbrev pub NeedImage : List JobSpec → List JobSpec → Type 0
NeedImage before [] = ⊥
NeedImage before (job ∷ jobs) = IsSome (needed before job) ⊎ NeedImage (before ++ job ∷ []) jobs
