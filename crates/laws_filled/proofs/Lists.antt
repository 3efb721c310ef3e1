-- Pages among the pages that are in.
use Rattle.std.proofs.Common.{◌≡◌, ℕ, Bool, true, false, ◌||◌, ◌==◌, List, [], ◌∷◌, ◌++◌, refl, sym, ap, ◌∙◌, eq-eqb}
use Rattle.std.specs.List.{list_any}
use Rattle.std.proofs.lemmas.List.Folds.{list_any-append}
use Rattle.laws_filled.specs.Pager.{IsAmong}

or-right : (a b : Bool) → b ≡ true → (a || b) ≡ true
or-right true b e = refl
or-right false b e = e

or-left : (a b : Bool) → a ≡ true → (a || b) ≡ true
or-left true b e = refl
or-left false b e = cc

pub among_more : (g : ℕ) (xs ys : List ℕ) → IsAmong g xs → IsAmong g (xs ++ ys)
among_more g xs ys among = list_any-append (λ x. x == g) xs ys ∙ or-left _ _ among

pub among_last : (g : ℕ) (xs : List ℕ) → IsAmong g (xs ++ g ∷ [])
among_last g xs = list_any-append (λ x. x == g) xs (g ∷ []) ∙ or-right (list_any (λ x. x == g) xs) _ (or-left (g == g) false (eq-eqb g g refl))

pub among_either : (g page : ℕ) (xs : List ℕ) → IsAmong g (xs ++ page ∷ []) → (page == g) ≡ false → IsAmong g xs
among_either g page xs among apart = by (list_any (λ x. x == g) xs) (sym (list_any-append (λ x. x == g) xs (page ∷ [])) ∙ among)
  where
    by : (b : Bool) → (b || ((page == g) || false)) ≡ true → b ≡ true
    by true e = refl
    by false e = let no : ((page == g) || false) ≡ false = ap (λ c. c || false) apart in cc

-- past the first
pub among_rest : (g old : ℕ) (rest : List ℕ) → (old == g) ≡ false → IsAmong g (old ∷ rest) → IsAmong g rest
among_rest g old rest apart among = by (old == g) apart among
  where
    by : (b : Bool) → b ≡ false → (b || list_any (λ x. x == g) rest) ≡ true → IsAmong g rest
    by true e h = cc
    by false e h = h

pub rest_among : (g old : ℕ) (rest : List ℕ) → IsAmong g rest → IsAmong g (old ∷ rest)
rest_among g old rest among = or-right (old == g) _ among
