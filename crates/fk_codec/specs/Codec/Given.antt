-- What `read` gives, against what is read: want of memory says nothing.
use Rattle.std.specs.Prelude.{◌≡◌, ℕ, List, Result, Ok, Err}
use Rattle.fk_image.specs.declared.image.image.Image.{Image}
use Rattle.laws_image_faults.specs.Faults.{Says}
use Rattle.fk_codec.specs.declared.codec.fail.ReadFail.{ReadFail}
use Rattle.fk_codec.specs.declared.codec.fail.ReadFail.TheVariants as fails

abbrev pub IsFirstFault : ReadFail → Result Image (ℕ × ℕ) → Type 0
IsFirstFault fails.NoMemory read = Unit {0}
IsFirstFault (fails.Image e) read = read ≡ Err (e.offset, e.reason)

-- what `read` gives is the image, or the offset and the reason of the first fault
abbrev pub Reads : Result Image ReadFail → Result Image (ℕ × ℕ) → Type 0
Reads (Ok i) read = read ≡ Ok i
Reads (Err e) read = IsFirstFault e read

-- the fault says where the bytes, or the records that they spell, break their form first
abbrev pub IsFirstBreak : List ℕ → ReadFail → Type 0
IsFirstBreak bytes fails.NoMemory = Unit {0}
IsFirstBreak bytes (fails.Image e) = Says bytes e.offset e.reason
