-- Spaces that stand in no order, and such as stand alone.
use Rattle.std.proofs.Common.{◌≡◌, ℕ, zero, suc, [], ◌∷◌, take, Some, refl, sym, ap, subst, ◌∙◌, arith}
use Rattle.std.specs.Prelude.{slice_get}
use Rattle.fk_image.specs.declared.image.image.SpaceRec.{SpaceRec}
use Rattle.fk_image.specs.Form.Order.{IsWithin, AreInOrder}
use Rattle.fk_image.specs.Form.Order.IsWithin.{Itself, Beneath}
use Rattle.examples_images.specs.Images.{by_breadth, falling, space, ComesBehind, BehindParentsIsInOrder}
use Rattle.laws_image_faults.proofs.Paths.{above-to}

parent_of : (s t : SpaceRec) → Some s ≡ Some t → s.parent ≡ t.parent
parent_of s t e = ap (λ (s : SpaceRec). s.parent) (one s t e)
  where
    one : (s t : SpaceRec) → Some s ≡ Some t → s ≡ t
    one s t e = cc

-- the third of them lies in the root, and so not beneath the second
not_within : (n : ℕ) → n ≡ 2 → IsWithin (take 3 by_breadth) 1 n → ⊥
not_within _ is Itself = absurd (omega (arith, is))
not_within _ is (Beneath p k n l w) =
    let there : Some l.space ≡ Some (space 0 5) = sym l.there ∙ ap (slice_get (take 3 by_breadth)) is in
    top p (sym l.parent_is ∙ parent_of l.space (space 0 5) there) w
  where
    top : (p : ℕ) → p ≡ 0 → IsWithin (take 3 by_breadth) 1 p → ⊥
    top _ is Itself = absurd (omega (arith, is))
    top _ is (Beneath q j m h u) = let inner = h.inner in absurd (omega (arith, inner, is))

pub by_breadth_isnt : AreInOrder by_breadth → ⊥
by_breadth_isnt order = not_within 2 refl (order 2 (space 1 9) refl).parent

pub falling_isnt : AreInOrder falling → ⊥
falling_isnt order =
    let lt = (order 1 (space 0 3) refl).rises 5 1 (record { space = space 0 5; inner = omega arith; there = refl; parent_is = refl; slot_is = refl }) in
    omega (arith, lt)

same_space : (s t : SpaceRec) → Some s ≡ Some t → s ≡ t
same_space s t e = cc

comes_behind : (n : ℕ) (s : SpaceRec) → slice_get by_breadth (suc n) ≡ Some s → ComesBehind (take (suc n) by_breadth) s
comes_behind zero s e =
    subst (ComesBehind (take 1 by_breadth)) (same_space (space 0 3) s e)
    (record { parent = omega arith; rises = above-to (take 1 by_breadth) 0 3 refl })
comes_behind (suc zero) s e =
    subst (ComesBehind (take 2 by_breadth)) (same_space (space 0 5) s e)
    (record { parent = omega arith; rises = above-to (take 2 by_breadth) 0 5 refl })
comes_behind (suc (suc zero)) s e =
    subst (ComesBehind (take 3 by_breadth)) (same_space (space 1 9) s e)
    (record { parent = omega arith; rises = above-to (take 3 by_breadth) 1 9 refl })
comes_behind (suc (suc (suc n))) s e = absurd cc

pub nearly_isnt : BehindParentsIsInOrder → ⊥
nearly_isnt claim = by_breadth_isnt (claim by_breadth comes_behind)

pub alone : (s : SpaceRec) → AreInOrder (s ∷ [])
alone s n t e = absurd cc
