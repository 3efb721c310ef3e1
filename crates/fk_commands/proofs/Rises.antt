-- Counts that rise, and those that stand.
use Rattle.std.proofs.Common.{◌≡◌, ℕ, Bool, true, false, ◌+◌, ◌-◌, ◌^◌, ◌≤◌, Result, Ok, Err, ◌∙◌, min, arith}
use Rattle.std.specs.Bool.{OnFalse}
use Rattle.std.proofs.Math.Nat.{min-le_left, min-le_right, le-min}
use Rattle.fk_causes.specs.Causes.{Rose, StandsUnless}

-- a count that rose after it didn't fall rose
pub rises : (before between now : ℕ) → before ≤ between → Rose between now → Rose before now
rises before between now later rose =
    let a = min-le_left (before + 1) (2 ^ 64 - 1) in
    let b = min-le_right (before + 1) (2 ^ 64 - 1) in
    let least : min (before + 1) (2 ^ 64 - 1) ≤ min (between + 1) (2 ^ 64 - 1) = le-min (omega (arith, a, later)) b in
    omega (arith, least, rose)

-- a count that stands does so whatever the answer is
pub stands : {T E : Type 0} (is_such : E → Bool) (before now : ℕ) (r : Result T E) → now ≡ before → StandsUnless is_such before now r
stands is_such before now (Ok value) same = same
stands is_such before now (Err error) same = by (is_such error)
  where
    by : (b : Bool) → OnFalse b (now ≡ before)
    by true = tt
    by false = same

-- one that stood up to a call, and in that call unless it answered such an error, stood unless it did
pub stands_since : {T E : Type 0} (is_such : E → Bool) (before between now : ℕ) (r : Result T E) → between ≡ before
    → StandsUnless is_such between now r → StandsUnless is_such before now r
stands_since is_such before between now (Ok value) same stood = stood ∙ same
stands_since is_such before between now (Err error) same stood = by (is_such error) stood
  where
    by : (b : Bool) → OnFalse b (now ≡ between) → OnFalse b (now ≡ before)
    by true stood = tt
    by false stood = stood ∙ same
