-- What code returns of a part, against what is read: want of memory says nothing.
use Rattle.std.specs.Prelude.{◌≡◌, ℕ, List, length, Result, Ok, Err}
use Rattle.fk_image.specs.declared.format.stop.Stop.{Stop}
use Rattle.fk_codec.specs.declared.reading.fail.Fail.{Fail}
use Rattle.fk_codec.specs.declared.reading.fail.Fail.TheVariants as fails

abbrev pub Fails : {Y : Type 0} → Fail → Result Y Stop → Type 0
Fails fails.NoMemory read = Unit {0}
Fails (fails.At stop) read = read ≡ Err stop

-- a fault of the bytes, and no want of memory
abbrev pub IsFault : Fail → Type 0
IsFault fails.NoMemory = ⊥
IsFault (fails.At stop) = Unit {0}

-- what a part gives, seen by view, is what reading it gives
abbrev pub Decodes : {X Y : Type 0} → (X → Y) → Result X Fail → Result Y Stop → Type 0
Decodes view (Ok x) read = read ≡ Ok (view x)
Decodes view (Err e) read = Fails e read

-- bytes are refused from here on, for this reason
abbrev pub Refuses : Fail → List ℕ → ℕ → Type 0
Refuses fail bytes reason = fail ≡ fails.At (record { left = length bytes; reason = reason })
