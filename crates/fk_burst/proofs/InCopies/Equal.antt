-- Equal: what tests of words say, and of pages against those that were copied.
use Rattle.std.proofs.Common.{◌≡◌, ℕ, ◌↔◌, ◌&&◌, ◌==◌, Bool, true, false, cond, not, List, [], ◌∷◌, Some, None, IsTrue, refl, sym, ap, ◌∙◌, eqb-true}
use Rattle.std.proofs.lemmas.Cmp.{nat_list_eq_equiv}
use Rattle.std.proofs.lemmas.Option.{same_Some}
use Rattle.std.specs.Cmp.Lexicographic.{pointwise}
use Rattle.std.specs.Prelude.{nat_eq}

both-first : (a b : Bool) → (a && b) ≡ true → a ≡ true
both-first true b h = refl
both-first false b h = h

both-second : (a b : Bool) → (a && b) ≡ true → b ≡ true
both-second true b h = h
both-second false b h = absurd (cc)

alike : (xs ys : List ℕ) → pointwise nat_eq xs ys ≡ true → xs ≡ ys
alike [] [] h = refl
alike [] (y ∷ ys) h = absurd (cc)
alike (x ∷ xs) [] h = absurd (cc)
alike (x ∷ xs) (y ∷ ys) h =
    let head : x ≡ y = eqb-true x y (both-first (x == y) (pointwise nat_eq xs ys) h) in
    let tail : xs ≡ ys = alike xs ys (both-second (x == y) (pointwise nat_eq xs ys) h) in
    λ i. head i ∷ tail i

pub same_words : (xs ys : List ℕ) (r : Bool) → r ≡ pointwise nat_eq xs ys → IsTrue r ↔ (xs ≡ ys)
same_words xs ys r is = (
  (λ yes. alike xs ys (sym is ∙ yes)),
  (λ same. is ∙ ap (pointwise nat_eq xs) (sym same) ∙ nat_list_eq_equiv.refl xs),
)

-- ---- a page, and what was copied of it

pub copied_same : (there r : Bool) (now words : List ℕ) → there ≡ true → (IsTrue r ↔ (now ≡ words)) → IsTrue r ↔ (Some now ≡ cond there (Some words) None)
copied_same true r now words is iff = ((λ yes. ap (λ x. Some x) (iff.0 yes)), (λ same. iff.1 (same_Some _ _ same)))
copied_same false r now words is iff = absurd (cc)

pub copied_gone : (there : Bool) (now words : List ℕ) → there ≡ false → IsTrue false ↔ (Some now ≡ cond there (Some words) None)
copied_gone true now words is = absurd (cc)
copied_gone false now words is = ((λ yes. absurd (cc)), (λ same. absurd (cc)))

pub copied_none : (there : Bool) (words : List ℕ) → IsTrue (not there) ↔ (None ≡ cond there (Some words) None)
copied_none true words = ((λ yes. absurd (cc)), (λ same. absurd (cc)))
copied_none false words = ((λ yes. refl), (λ same. refl))

-- ---- two words that are compared one after the other

pub has_both : (r : Bool) (g h : List ℕ) (n m : ℕ) → n ≡ m → (IsTrue r ↔ (g ≡ h)) → IsTrue r ↔ ((g ≡ h) × (n ≡ m))
has_both r g h n m same iff = ((λ yes. (iff.0 yes, same)), (λ both. iff.1 both.0))

pub has_other : (g h : List ℕ) (n m : ℕ) → (n ≡ m → ⊥) → IsTrue false ↔ ((g ≡ h) × (n ≡ m))
has_other g h n m apart = ((λ yes. absurd (cc)), (λ both. absurd (apart both.1)))
