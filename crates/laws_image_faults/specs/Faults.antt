-- The first fault of bytes that are no image, by the form of an image alone.
use Rattle.std.specs.Prelude.{◌≡◌, ℕ, Bool, true, false, List, Err}
use Rattle.fk_image.specs.declared.image.image.Image.{Image}
use Rattle.fk_image.specs.declared.format.reasons.reason.TheConstants as reasons
use Rattle.fk_image.specs.Format.Reading.{image_reading}
use Rattle.fk_image.specs.Format.Versions.{image_shows}
use Rattle.fk_image.specs.Form.Standing.{IsFirstWrong, AllRight}
use Rattle.laws_image_faults.specs.Forms.{BreaksAt, GoesOnAt, Holds}
use Rattle.laws_image_faults.specs.Forms.Form.{Whole}
use Rattle.laws_image_faults.specs.Images.{image}

-- what the fault with this reason says of the bytes: a field that doesn't hold what it may, and is refused for this very reason; the first
-- pointer that is wrong; the new version where no calling thread shows a call of it; bytes that are left
pub data Says (bytes : List ℕ) : ℕ → ℕ → Type 0 where
  OfField : (offset reason : ℕ) → BreaksAt image bytes offset reason → Says bytes offset reason
  OfPointer : (offset : ℕ) (new : Bool) (i : Image) → Holds image bytes (Whole (new, i)) → IsFirstWrong i.spaces offset → Says bytes offset reasons.POINTER
  OfVersion : (i : Image) → Holds image bytes (Whole (true, i)) → AllRight i.spaces → image_shows i ≡ false → Says bytes 8 reasons.NEWER
  OfRest : (offset : ℕ) → GoesOnAt image bytes offset → Says bytes offset reasons.LEFT_OVER

-- a fault that is told is the first one
abbrev pub FaultsAreFirst : Type 0
FaultsAreFirst = (bytes : List ℕ) (offset reason : ℕ) → image_reading bytes ≡ Err (offset, reason) → Says bytes offset reason

-- where bytes break the form, that is what is told, with its reason
abbrev pub BreaksAreTold : Type 0
BreaksAreTold = (bytes : List ℕ) (offset reason : ℕ) → BreaksAt image bytes offset reason → image_reading bytes ≡ Err (offset, reason)

-- and whatever this says of the bytes is what is told
abbrev pub FirstsAreTold : Type 0
FirstsAreTold = (bytes : List ℕ) (offset reason : ℕ) → Says bytes offset reason → image_reading bytes ≡ Err (offset, reason)
