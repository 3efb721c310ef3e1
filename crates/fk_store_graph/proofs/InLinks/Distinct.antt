-- Distinct: of numbers below b no more than b are distinct.
use Rattle.std.proofs.Common.{◌≡◌, ◌≢◌, ℕ, zero, suc, ◌<◌, ◌≤◌, ◌==◌, cond, Bool, true, false, inl, inr, List, [], ◌∷◌, length, refl, sym, subst, arith}
use Rattle.std.proofs.lemmas.Bool.Decides.{nat_tests}
use Rattle.fk_model.proofs.walks.Members.{IsIn}
use Rattle.fk_store_graph.specs.Links.Lists.{Differ}

-- the list without a number
unfoldable without : ℕ → List ℕ → List ℕ
without n [] = []
without n (x ∷ xs) = cond (x == n) (without n xs) (x ∷ without n xs)

in_without : (n m : ℕ) (xs : List ℕ) → IsIn m (without n xs) → IsIn m xs × (m ≢ n)
unfolding without
in_without n m [] is = absurd is
in_without n m (x ∷ xs) is = by (x == n) refl is (in_without n m xs)
  where
    by : (b : Bool) → (x == n) ≡ b → IsIn m (cond b (without n xs) (x ∷ without n xs)) → (IsIn m (without n xs) → IsIn m xs × (m ≢ n)) →
        IsIn m (x ∷ xs) × (m ≢ n)
    by true e is ih = let found = ih is in (inr found.0, found.1)
    by false e (inl same) ih = (inl same, λ here. absurd (grind (arith, nat_tests)))
    by false e (inr is) ih = let found = ih is in (inr found.0, found.1)

differ_without : (n : ℕ) (xs : List ℕ) → Differ xs → Differ (without n xs)
unfolding without
differ_without n [] differ = tt
differ_without n (x ∷ xs) differ = by (x == n) (differ_without n xs differ.1)
  where
    by : (b : Bool) → Differ (without n xs) → Differ (cond b (without n xs) (x ∷ without n xs))
    by true rest = rest
    by false rest = (λ is. differ.0 (in_without n x xs is).0, rest)

-- a list that doesn't have it stays as long as it is
absent : (n : ℕ) (xs : List ℕ) → (IsIn n xs → ⊥) → length (without n xs) ≡ length xs
unfolding without
absent n [] none = refl
absent n (x ∷ xs) none = by (x == n) refl (absent n xs (λ is. none (inr is)))
  where
    by : (b : Bool) → (x == n) ≡ b → length (without n xs) ≡ length xs → length (cond b (without n xs) (x ∷ without n xs)) ≡ length (x ∷ xs)
    by true e same = let here : x ≡ n = grind (arith, nat_tests) in absurd (none (inl here))
    by false e same = omega (arith, same)

-- one of distinct numbers is this one at most
longer : (n : ℕ) (xs : List ℕ) → Differ xs → length xs ≤ suc (length (without n xs))
unfolding without
longer n [] differ = omega arith
longer n (x ∷ xs) differ = by (x == n) refl (longer n xs differ.1)
  where
    by : (b : Bool) → (x == n) ≡ b → length xs ≤ suc (length (without n xs)) → length (x ∷ xs) ≤ suc (length (cond b (without n xs) (x ∷ without n xs)))
    by true e rest =
        let here : x ≡ n = grind (arith, nat_tests) in
        let same = absent n xs (λ is. differ.0 (subst (λ y. IsIn y xs) (sym here) is)) in
        omega (arith, same)
    by false e rest = omega (arith, rest)

pub few_distinct : (b : ℕ) (xs : List ℕ) → Differ xs → ((n : ℕ) → IsIn n xs → n < b) → length xs ≤ b
few_distinct zero [] differ low = omega arith
few_distinct zero (x ∷ xs) differ low = let none = low x (inl refl) in absurd (omega (arith, none))
few_distinct (suc b) xs differ low =
    let rest = few_distinct b (without b xs) (differ_without b xs differ) lower in
    let long = longer b xs differ in
    omega (arith, rest, long)
  where
    lower : (n : ℕ) → IsIn n (without b xs) → n < b
    lower n is =
        let found = in_without b n xs is in
        let less = low n found.0 in
        let apart = found.1 in
        grind (arith, nat_tests)
