-- Rings: the pointers that lead to an object stand in a ring with its head.
use Rattle.std.specs.Prelude.{◌≡◌, ℕ, ◌<◌, Bool, false, cond, ◌==◌, Option, Some, None}

-- the function with another value at one number
abbrev pub put_at : {A : Type 0} → (ℕ → A) → ℕ → A → ℕ → A
put_at f n a m = cond (m == n) a (f m)

-- `owner` says to whom a node leads; a head leads to its own object
pub record IsRings {K : Type 0} (is_head : ℕ → Bool) (next prev : ℕ → ℕ) (owner : ℕ → Option K) : Type 0 where
  pub back : (n : ℕ) → prev (next n) ≡ n
  pub forth : (n : ℕ) → next (prev n) ≡ n
  pub same : (n : ℕ) → owner (next n) ≡ owner n
  -- what leads nowhere is alone
  pub alone : (n : ℕ) → owner n ≡ None → next n ≡ n
  -- who goes on from pointer to pointer comes to a head
  pub rank : ℕ → ℕ
  pub falls : (n : ℕ) (w : K) → owner n ≡ Some w → is_head n ≡ false → rank (next n) < rank n
