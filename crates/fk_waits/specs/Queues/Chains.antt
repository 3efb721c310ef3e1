-- Chains: lists of nodes that are linked both ways behind a head, in their order.
use Rattle.std.specs.Prelude.{◌≡◌, ◌≢◌, ℕ, ◌==◌, List, [], ◌∷◌, if◌then◌else◌}

-- a function changed at one number
abbrev pub put_at : (ℕ → ℕ) → ℕ → ℕ → ℕ → ℕ
put_at f n a m = if m == n then a else f m

-- from a by these nodes to b
abbrev pub IsWay : (ℕ → ℕ) → (ℕ → ℕ) → ℕ → List ℕ → ℕ → Type 0
IsWay next prev a [] b = (next a ≡ b) × (prev b ≡ a)
IsWay next prev a (x ∷ l) b = (next a ≡ x) × (prev x ≡ a) × IsWay next prev x l b

-- a node isn't among these
abbrev pub IsNoneOf : ℕ → List ℕ → Type 0
IsNoneOf n [] = Unit {0}
IsNoneOf n (x ∷ l) = (n ≢ x) × IsNoneOf n l

abbrev pub AllAre : (ℕ → Type 0) → List ℕ → Type 0
AllAre P [] = Unit {0}
AllAre P (x ∷ l) = P x × AllAre P l

abbrev pub AreApart : List ℕ → Type 0
AreApart [] = Unit {0}
AreApart (x ∷ l) = IsNoneOf x l × AreApart l

-- the list behind a head is this one
pub record IsList (next prev : ℕ → ℕ) (head : ℕ) (l : List ℕ) : Type 0 where
  pub way : IsWay next prev head l head
  pub apart : AreApart (head ∷ l)
