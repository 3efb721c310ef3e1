-- HeldLaws: a number comes to those that are told of, or goes.
use Rattle.std.proofs.Common.{◌≡◌, ◌≢◌, ◌⊎◌, inl, inr, ℕ, zero, suc, ◌+◌, ◌-◌, ◌<◌, ◌≤◌, ltb, cond, Bool, true, false, List, [], ◌∷◌, ◌++◌, length, get_or, refl, sym, ap, ◌∙◌, arith}
use Rattle.std.proofs.lemmas.Bool.Decides.{nat_tests}
use Rattle.std.proofs.lemmas.List.{get_or_default}
use Rattle.fk_model.proofs.walks.Members.{IsIn, in_left, in_right}
use Rattle.fk_store.specs.Holds.Held.{IsTold}

pub told_last : (births : List ℕ) (lost : Bool) (n : ℕ) → IsTold (births ++ n ∷ [], lost) n
told_last births lost n = inr (in_right n births (n ∷ []) (inl refl))

pub told_still : (births : List ℕ) (lost : Bool) (space n : ℕ) → IsTold (births, lost) n → IsTold (births ++ space ∷ [], lost) n
told_still births lost space n (inl all) = inl all
told_still births lost space n (inr is) = inr (in_left n births (space ∷ []) is)

-- whether there was room for it or not
pub told_pushed : (births : List ℕ) (lost is : Bool) (space : ℕ) → is ≡ true → IsTold (cond is (births ++ space ∷ []) births, lost) space
told_pushed births lost true space on = told_last births lost space
told_pushed births lost false space on = absurd (cc)

pub told_anyway : (births : List ℕ) (lost is : Bool) (space n : ℕ) → IsTold (births, lost) n → IsTold (cond is (births ++ space ∷ []) births, lost) n
told_anyway births lost true space n told = told_still births lost space n told
told_anyway births lost false space n told = told

-- where all are told of, it is one of them
pub told_in : (births : List ℕ) (lost : Bool) → lost ≡ false → (n : ℕ) → IsTold (births, lost) n → IsIn n births
told_in births lost off n (inl all) = let both = sym all ∙ off in absurd (cc)
told_in births lost off n (inr is) = is

-- what is read is among them
pub read_in : (births : List ℕ) (i n : ℕ) → i < length births → get_or births i 0 ≡ n → IsIn n births
read_in [] i n low is = absurd (omega (arith, low))
read_in (b ∷ births) zero n low is = inl is
read_in (b ∷ births) (suc i) n low is = inr (read_in births i n (omega (arith, low)) is)

-- and what is among them is read somewhere
pub in_read : (births : List ℕ) (n : ℕ) → IsIn n births → (i : ℕ) × (i < length births) × (get_or births i 0 ≡ n)
in_read [] n is = absurd is
in_read (b ∷ births) n (inl e) = (0, omega arith, e)
in_read (b ∷ births) n (inr is) = let found = in_read births n is in (suc found.0, let low = found.1 in omega (arith, low), found.2)

-- none of those so far
pub none_in : (births : List ℕ) (n i : ℕ) → length births ≤ i → ((j : ℕ) → j < i → j < length births → get_or births j 0 ≢ n) → IsIn n births → ⊥
none_in births n i past off is = let found = in_read births n is in let low = found.1 in off found.0 (omega (arith, low, past)) found.1 found.2

-- one more that isn't it
pub none_yet : (births : List ℕ) (space i b : ℕ) → i < length births → b ≡ get_or births i b → b ≢ space →
    ((j : ℕ) → j < i → j < length births → get_or births j 0 ≢ space) → (j : ℕ) → j < i + 1 → j < length births → get_or births j 0 ≢ space
none_yet births space i b low is off so_far j below within found = by (ltb j i) refl
  where
    by : (t : Bool) → ltb j i ≡ t → ⊥
    by true e = so_far j (grind (arith, nat_tests)) within found
    by false e =
        let same : j ≡ i = grind (arith, nat_tests) in
        off (is ∙ get_or_default births i b 0 low ∙ ap (λ k. get_or births k 0) (sym same) ∙ found)

-- ---- one goes, and the last takes its place

module _ (old new : List ℕ) (long at space : ℕ) (long_is : long ≡ length old) (low : at < length old) (here : get_or old at 0 ≡ space)
    (less : length new + 1 ≡ length old)
    (same : ((d : ℕ) → at + 1 < long → get_or new at d ≡ get_or old (long - 1) d) × ((k d : ℕ) → k ≢ at → k + 1 < long → get_or new k d ≡ get_or old k d)) where
  moved_in : (n i : ℕ) → n ≢ space → i < length old → get_or old i 0 ≡ n → IsIn n new
  moved_in n i apart within is = by (ltb (i + 1) long) refl
    where
      off : i ≢ at
      off e = apart (sym is ∙ ap (λ k. get_or old k 0) e ∙ here)

      last_in : i ≡ long - 1 → (t : Bool) → ltb (at + 1) long ≡ t → IsIn n new
      last_in last true e =
          let more : at + 1 < long = grind (arith, nat_tests) in
          read_in new at n (omega (arith, more, less, long_is)) (same.0 0 more ∙ ap (λ k. get_or old k 0) (sym last) ∙ is)
      last_in last false e = let past : long ≤ at + 1 = grind (arith, nat_tests) in absurd (off (omega (arith, last, past, low, long_is)))

      by : (t : Bool) → ltb (i + 1) long ≡ t → IsIn n new
      by true e =
          let more : i + 1 < long = grind (arith, nat_tests) in
          read_in new i n (omega (arith, more, less, long_is)) (same.1 i 0 off more ∙ is)
      by false e =
          let past : long ≤ i + 1 = grind (arith, nat_tests) in
          last_in (omega (arith, past, within, long_is)) (ltb (at + 1) long) refl

  pub told_removed : (lost : Bool) (n : ℕ) → n ≢ space → IsTold (old, lost) n → IsTold (new, lost) n
  told_removed lost n apart (inl all) = inl all
  told_removed lost n apart (inr is) = let found = in_read old n is in inr (moved_in n found.0 apart found.1 found.2)
