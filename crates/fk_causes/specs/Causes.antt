-- Why a call of the outside may fail, and what the loops do to bytes that are told.
use Rattle.std.specs.Prelude.{◌≡◌, ⊤, ℕ, Bool, true, false, if◌then◌else◌, is_ok, ◌+◌, ◌-◌, ◌^◌, ◌≤◌, min, Result, Ok, Err, OnOk, OnErr, List, Option, Some, None, length, take}
use Rattle.std.specs.Bool.{OnFalse}
use Rattle.std.specs.Io.KnownBytes.{Appends, Consumes}
use Rattle.fk_causes.specs.declared.whole.ReadError.{ReadError}
use Rattle.fk_causes.specs.declared.whole.ReadError.TheVariants.{TooLong, ReadFault, NoMemory}

-- a count goes on by one, and stands still at its last value
abbrev pub counted : ℕ → ℕ
counted n = min (n + 1) (2 ^ 64 - 1)

-- the count rose; one that stands at its last value counts as one that rose
abbrev pub Rose : ℕ → ℕ → Type 0
Rose before now = counted before ≤ now

-- the count didn't fall, a failure comes only where it rose, and it stands where there is none
pub record HasCause {T E : Type 0} (before now : ℕ) (result : Result T E) : Type 0 where
  pub later : before ≤ now
  pub failed : OnErr result (Rose before now)
  pub kept : OnOk result (now ≡ before)

-- the count stands, unless the answer is an error of this kind
abbrev pub StandsUnless : {T E : Type 0} → (E → Bool) → ℕ → ℕ → Result T E → Type 0
StandsUnless is_such before now (Ok value) = now ≡ before
StandsUnless is_such before now (Err error) = OnFalse (is_such error) (now ≡ before)

-- which error of a source says that a read failed
abbrev pub is_failed_read : ReadError → Bool
is_failed_read TooLong = false
is_failed_read ReadFault = true
is_failed_read NoMemory = false

-- a call that failed counted one fault, and another none
abbrev pub CountsFault : {T E : Type 0} → ℕ → ℕ → Result T E → Type 0
CountsFault before now result = now ≡ (if is_ok result then before else counted before)

-- a source may have held these bytes: where it tells what is left, they are just that
abbrev pub MayHold : Option (List ℕ) → List ℕ → Type 0
MayHold None bytes = ⊤
MayHold (Some left) bytes = bytes ≡ left

-- told bytes have lost at most so many from their front
pub record ConsumesAtMost (most : ℕ) (old new : Option (List ℕ)) : Type 0 where
  pub taken : List ℕ
  pub few : length taken ≤ most
  pub front : Consumes old new taken

-- told bytes have grown by a prefix of a text
pub record AppendsPrefix (old new : Option (List ℕ)) (text : List ℕ) : Type 0 where
  pub count : ℕ
  pub within : count ≤ length text
  pub appended : Appends old new (take count text)
