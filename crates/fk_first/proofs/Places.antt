-- A list at a place.
use Rattle.std.proofs.Common.{◌≡◌, ℕ, zero, suc, ◌+◌, ◌<◌, List, [], ◌∷◌, ◌++◌, length, take, drop, Some, None, refl, ap, arith}
use Rattle.std.specs.List.{slice_get}

-- its front and its rest
split-suc : {X : Type 0} (xs : List X) (n : ℕ) (x : X) → slice_get xs n ≡ Some x → (drop n xs ≡ x ∷ drop (suc n) xs)
    × (take (suc n) xs ≡ take n xs ++ x ∷ []) × (n < length xs)
split-suc [] n x got = absurd (cc)
split-suc (y ∷ ys) zero x got = let same : y ≡ x = cc in (ap (λ z. z ∷ ys) same, ap (λ z. z ∷ []) same, omega arith)
split-suc (y ∷ ys) (suc n) x got =
    let (left, right, within) = split-suc ys n x got in (left, ap (λ zs. y ∷ zs) right, omega (arith, within))

pub split : {X : Type 0} (xs : List X) (n : ℕ) (x : X) → slice_get xs n ≡ Some x → (drop n xs ≡ x ∷ drop (n + 1) xs)
    × (take (n + 1) xs ≡ take n xs ++ x ∷ []) × (n < length xs)
split xs n x got = let more : n + 1 ≡ suc n = omega arith in rw more (split-suc xs n x got)

-- and behind its end
pub none-left : {X : Type 0} (xs : List X) (n : ℕ) → slice_get xs n ≡ None → drop n xs ≡ []
none-left [] zero got = refl
none-left [] (suc n) got = refl
none-left (y ∷ ys) zero got = absurd (cc)
none-left (y ∷ ys) (suc n) got = none-left ys n got
