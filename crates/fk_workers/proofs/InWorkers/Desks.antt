-- The desks of a crew after its work stand where they stood.
use Rattle.std.proofs.Common.{◌≡◌, ℕ, List, [], ◌∷◌, ◌++◌, length, take, refl, sym, ap, subst, ◌∙◌}
use Rattle.std.specs.List.{All}

take_front : {A : Type 0} (xs ys : List A) → take (length xs) (xs ++ ys) ≡ xs
take_front [] ys = refl
take_front (x ∷ xs) ys = ap (λ rest. x ∷ rest) (take_front xs ys)

pub all_back : {A : Type 0} (xs ys : List A) (n : ℕ) (P : A → Type 0) → length xs ≡ n → All P xs → All P (take n (xs ++ ys))
all_back xs ys n P long all = subst (All P) (sym (ap (λ m. take m (xs ++ ys)) (sym long) ∙ take_front xs ys)) all
