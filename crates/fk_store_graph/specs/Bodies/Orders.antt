-- Orders: what comes after a key.
use Rattle.std.specs.Prelude.{Bool, true, IsTrue, Option, Some, None}
use Rattle.std.specs.declared.cmp.Ordering.{Ordering}
use Rattle.std.specs.Ordering.{is_lt, is_le}

-- a key comes after another, or is any where there is no other
abbrev pub comes_after : {K : Type 0} → (K → K → Ordering) → Option K → K → Bool
comes_after R None q = true
comes_after R (Some k) q = is_lt (R k q)

-- this is the first of those for which P holds that comes after k, or there is none
abbrev pub IsFirstAfter : {K : Type 0} → (K → K → Ordering) → (K → Type 0) → Option K → Option K → Type 0
IsFirstAfter {K} R P k None = (q : K) → P q → IsTrue (comes_after R k q) → ⊥
IsFirstAfter {K} R P k (Some next) = P next × IsTrue (comes_after R k next) × ((q : K) → P q → IsTrue (comes_after R k q) → IsTrue (is_le (R next q)))
