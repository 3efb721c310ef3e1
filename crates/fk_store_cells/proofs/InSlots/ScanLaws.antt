-- Scans: what a search for the next taken slot tells.
use Rattle.std.proofs.Common.{◌≡◌, ◌⊎◌, inl, inr, ℕ, ◌+◌, ◌<◌, ◌≤◌, Bool, true, false, ◌==◌, ltb, List, length, get_or, Option, Some, None, IsSome, refl, sym, ap, subst, ◌∙◌, arith}
use Rattle.std.proofs.lemmas.Bool.Decides.{nat_tests}
use Rattle.fk_store_cells.specs.Slots.Cells.{cell_in, cell, is_from}
use Rattle.fk_store_cells.proofs.InSlots.CellLaws.{cell_found, cell_past}

pub from_here : (a b : ℕ) → is_from a b a b ≡ true
from_here a b = grind (arith, nat_tests)

pub from_row : (a b : ℕ) → (s k : ℕ) → a < s → is_from a b s k ≡ true
from_row a b s k low = grind (arith, nat_tests)

pub from_slot : (a b k : ℕ) → b ≤ k → is_from a b a k ≡ true
from_slot a b k low = grind (arith, nat_tests)

pub from_cases : (a b s k : ℕ) → is_from a b s k ≡ true → (a < s) ⊎ ((a ≡ s) × (b ≤ k))
from_cases a b s k h = by (ltb a s) refl (a == s) refl (ltb k b) refl
  where
    by : (x : Bool) → ltb a s ≡ x → (y : Bool) → (a == s) ≡ y → (z : Bool) → ltb k b ≡ z → (a < s) ⊎ ((a ≡ s) × (b ≤ k))
    by true e y f z g = inl (grind (arith, nat_tests))
    by false e true f false g = inr (grind (arith, nat_tests), grind (arith, nat_tests))
    by false e true f true g = absurd (grind (arith, nat_tests))
    by false e false f z g = absurd (grind (arith, nat_tests))

pub from_later : (a b s k j : ℕ) → is_from a b s k ≡ true → k ≤ j → is_from a b s j ≡ true
from_later a b s k j h low = elim (from_cases a b s k h) [
  | inl less ↦ from_row a b s j less
  | inr same ↦ subst (λ t. is_from a b t j ≡ true) same.0 (from_slot a b j (omega (arith, same.1, low)))
]

pub from_next : (a b s k : ℕ) → is_from a b s k ≡ true → is_from a b (s + 1) 0 ≡ true
from_next a b s k h = elim (from_cases a b s k h) [
  | inl less ↦ from_row a b (s + 1) 0 (omega (arith, less))
  | inr same ↦ from_row a b (s + 1) 0 (omega (arith, same.0))
]

none_there : {V : Type 0} (o : Option V) → o ≡ None → IsSome o → ⊥
none_there None e h = absurd (cc)
none_there (Some v) e h = absurd (cc)

module _ {V : Type 0} (rows : List (List (Option V))) (at from : ℕ) (row : List (Option V)) (low : at < length rows) (is : row ≡ get_or rows at row) where
  in_row : (s k : ℕ) → at ≡ s → IsSome (cell rows s k) → IsSome (cell_in row k)
  in_row s k same some = subst IsSome (ap (λ s. cell rows s k) (sym same) ∙ cell_found rows at k row low is) some

  pub taken-some : (n : ℕ) → IsSome (cell_in row n) → IsSome (cell rows at n)
  taken-some n some = subst IsSome (sym (cell_found rows at n row low is)) some

  -- the first one of a row is the first of all
  pub taken-first : (n : ℕ) → ((k : ℕ) → IsSome (cell_in row k) → from ≤ k → n ≤ k) →
      (s k : ℕ) → IsSome (cell rows s k) → is_from at from s k ≡ true → is_from at n s k ≡ true
  taken-first n lowest s k some later = elim (from_cases at from s k later) [
    | inl less ↦ from_row at n s k less
    | inr same ↦ subst (λ t. is_from at n t k ≡ true) same.0 (from_slot at n k (lowest k (in_row s k same.0 some) same.1))
  ]

  -- where a row has none, the next row follows
  pub taken-next : ((k : ℕ) → IsSome (cell_in row k) → k < from) →
      (s k : ℕ) → IsSome (cell rows s k) → is_from at from s k ≡ true → is_from (at + 1) 0 s k ≡ true
  taken-next none s k some later = elim (from_cases at from s k later) [
    | inl less ↦ by (ltb (at + 1) s) refl less
    | inr same ↦ let past = none k (in_row s k same.0 some) in absurd (omega (arith, past, same.1))
  ]
    where
      by : (b : Bool) → ltb (at + 1) s ≡ b → at < s → is_from (at + 1) 0 s k ≡ true
      by b e less = grind (arith, nat_tests)

-- past the last row there is none
pub taken-past : {V : Type 0} (rows : List (List (Option V))) (at from s k : ℕ) →
    length rows ≤ at → IsSome (cell rows s k) → is_from at from s k ≡ true → ⊥
taken-past rows at from s k past some later = none_there (cell rows s k) (cell_past rows s k (elim (from_cases at from s k later) [
  | inl less ↦ omega (arith, less, past)
  | inr same ↦ omega (arith, same.0, past)
])) some

pub not_true : (b : Bool) → (b ≡ true → ⊥) → b ≡ false
not_true true h = absurd (h refl)
not_true false h = refl
