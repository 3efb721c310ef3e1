-- What a shelf tells of its files, and what its calls do to them and to its counts.
use Rattle.std.specs.Prelude.{◌≡◌, ◌≢◌, ⊤, ℕ, Bool, true, false, if◌then◌else◌, ◌≤◌, List, Option, Some, None, Result, Ok, Err, map, String, Vec, string_bytes}
use Rattle.std.specs.declared.alloc.Global.{Global}
use Rattle.std.specs.FinMap.{FinMap, from_entries}
use Rattle.std.specs.Ordering.{nat_cmp}
use Rattle.std.specs.Cmp.Lexicographic.{slice_cmp}
use Rattle.fk_causes.specs.Causes.{counted, Rose, StandsUnless}
use Rattle.fk_causes.specs.declared.shelf.ShelfFail.{ShelfFail}
use Rattle.fk_causes.specs.declared.shelf.ShelfFail.TheVariants.{Failed, NoMemory}

-- the bytes under each name, where there are any
abbrev pub FileMap : Type 0
FileMap = List ℕ → Option (List ℕ)

-- told files have this under a name
abbrev pub HasAt : Option FileMap → List ℕ → Option (List ℕ) → Type 0
HasAt None name bytes = ⊤
HasAt (Some files) name bytes = files name ≡ bytes

-- told files are as before under every other name
abbrev pub KeepsOthers : Option FileMap → Option FileMap → List ℕ → Type 0
KeepsOthers None new name = ⊤
KeepsOthers (Some old) None name = ⊥
KeepsOthers (Some old) (Some new) name = (other : List ℕ) → other ≢ name → new other ≡ old other

-- which error of a shelf says that it failed, and not for want of memory
abbrev pub is_failed : ShelfFail → Bool
is_failed Failed = true
is_failed NoMemory = false

-- a count of a shelf didn't fall, `Failed` comes only where it rose, and it stands where another answer comes
pub record HasShelfCause {T : Type 0} (before now : ℕ) (result : Result T ShelfFail) : Type 0 where
  pub later : before ≤ now
  pub failed : result ≡ Err Failed → Rose before now
  pub kept : StandsUnless is_failed before now result

-- whether a call of a shelf failed, and not for want of memory
abbrev pub has_failed : {T : Type 0} → Result T ShelfFail → Bool
has_failed (Ok value) = false
has_failed (Err fail) = is_failed fail

-- a call that failed counted one, and another none
abbrev pub CountsFailure : {T : Type 0} → ℕ → ℕ → Result T ShelfFail → Type 0
CountsFailure before now result = now ≡ (if has_failed result then counted before else before)

-- the files of a list of names and bytes
abbrev pub files_of : List (String Global × Vec ℕ Global) → FinMap (slice_cmp nat_cmp) (List ℕ)
files_of entries = from_entries (map (λ e. (string_bytes e.0, e.1.items)) entries)

-- what contracts see of a shelf in memory: its files, how often it was called, the numbers of the calls that fail, and
-- how many gets and puts failed
pub record ShelfMemory : Type 0 where
  pub files : FinMap (slice_cmp nat_cmp) (List ℕ)
  pub calls : ℕ
  pub fails : List ℕ
  pub failed_gets : ℕ
  pub failed_puts : ℕ
