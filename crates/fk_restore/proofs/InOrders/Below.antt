-- Slots to which nothing leads, of objects and spaces one after the other.
use Rattle.std.proofs.Common.{◌≡◌, ℕ, zero, suc, ◌+◌, ◌<◌, ◌≤◌, Bool, false, ◌||◌, List, [], ◌∷◌, drop, length, refl, sym, ap, ◌∙◌, arith}
use Rattle.std.specs.List.{list_any}
use Rattle.std.specs.Prelude.{slice_index_or}
use Rattle.fk_restore.proofs.InPositions.Parted.{drop_out}

-- what is left of a list from an element on
from_item : {A : Type 0} (xs : List A) (n : ℕ) (d : A) → n < length xs → drop n xs ≡ slice_index_or xs n d ∷ drop (suc n) xs
from_item [] n d less = absurd (omega (arith, less))
from_item (x ∷ xs) zero d less = refl
from_item (x ∷ xs) (suc n) d less = from_item xs n d (omega (arith, less))

-- of the slots from one on and below another none is led to by all, where none is by what is left
abbrev pub NoneBelow : {A : Type 0} → (ℕ → A → Bool) → ℕ → ℕ → List A → List A → Type 0
NoneBelow leads from lowest left all =
    (i : ℕ) → from ≤ i → i < lowest → list_any (leads i) left ≡ false → list_any (leads i) all ≡ false

pub one_more : {A : Type 0} (leads : ℕ → A → Bool) (from lowest lower n : ℕ) (all : List A) (d : A) → n < length all → lower ≤ lowest →
    ((i : ℕ) → from ≤ i → i < lower → leads i (slice_index_or all n d) ≡ false) →
    NoneBelow leads from lowest (drop n all) all → NoneBelow leads from lower (drop (n + 1) all) all
one_more leads from lowest lower n all d less le none so i above below rest =
    let next : n + 1 ≡ suc n = omega arith in
    so i above (omega (arith, le, below))
    (ap (list_any (leads i)) (from_item all n d less) ∙ (λ j. none i above below j || list_any (leads i) (drop (suc n) all))
    ∙ ap (λ k. list_any (leads i) (drop k all)) (sym next) ∙ rest)

-- where nothing is left
pub none_left : {A : Type 0} (leads : ℕ → A → Bool) (from lowest n : ℕ) (all : List A) → length all ≤ n → NoneBelow leads from lowest (drop n all) all →
    (i : ℕ) → from ≤ i → i < lowest → list_any (leads i) all ≡ false
none_left leads from lowest n all le so i above below = so i above below (ap (list_any (leads i)) (drop_out all n le))
