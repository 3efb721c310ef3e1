-- The places of keys, as a map has them.
use Rattle.std.specs.Prelude.{ℕ, List, Vec, Option, Some, is_some, if◌then◌else◌}
use Rattle.std.specs.BTreeMap.{BTreeMap, get_by}
use Rattle.std.specs.Cmp.Lexicographic.{slice_cmp}
use Rattle.std.specs.Ordering.{nat_cmp}
use Rattle.std.specs.Str.{bytes_eq}
use Rattle.std.specs.declared.alloc.Global.{Global}

-- the place of a key
abbrev pub place_in : BTreeMap (Vec ℕ Global) ℕ → List ℕ → Option ℕ
place_in places key = get_by (λ k. slice_cmp nat_cmp key k.items) places

-- the places with that of one more key; a key keeps the place that it has
abbrev pub with_place : List ℕ → ℕ → (List ℕ → Option ℕ) → List ℕ → Option ℕ
with_place key place places q = if is_some (places key) then places q else if bytes_eq key q then Some place else places q
