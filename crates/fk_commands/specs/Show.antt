-- The command `show`: what an image on the shelf comes to.
use Rattle.std.specs.Prelude.{◌≡◌, ℕ, List, Option, Some, None, Result, Ok, Err}
use Rattle.fk_causes.specs.Shelf.{FileMap, HasAt}
use Rattle.fk_image.specs.declared.image.image.Image.{Image}
use Rattle.fk_codec.specs.Show.Shown.{shown}
use Rattle.fk_image.specs.Format.Reading.{image_reading}
use Rattle.fk_commands.specs.declared.status.Status.{Status}
use Rattle.fk_commands.specs.declared.status.Status.TheVariants.{Ok as Done, Absent, BadImage}
use Rattle.fk_commands.specs.declared.outcome.Outcome.{Outcome}
use Rattle.fk_commands.specs.Files.{image_name}
use Rattle.fk_commands.specs.Outcomes.{without_report, IsRefused}

-- an image is shown, and bytes that spell none are refused by the offset and the reason of their first fault
abbrev pub IsShown : List ℕ → Result Image (ℕ × ℕ) → Outcome → List ℕ → Type 0
IsShown name (Err fault) outcome text = IsRefused (BadImage name fault.0 fault.1) outcome text
IsShown name (Ok i) outcome text = (outcome ≡ without_report Done) × (text ≡ shown i)

-- the same of a file that may not be there
abbrev pub IsFileShown : List ℕ → Option (List ℕ) → Outcome → List ℕ → Type 0
IsFileShown name None outcome text = IsRefused (Absent name) outcome text
IsFileShown name (Some bytes) outcome text = IsShown name (image_reading bytes) outcome text

-- what the files of the shelf come to
abbrev pub IsShow : List ℕ → Option FileMap → Outcome → List ℕ → Type 0
IsShow name files outcome text = (file : Option (List ℕ)) × HasAt files (image_name name) file × IsFileShown name file outcome text
