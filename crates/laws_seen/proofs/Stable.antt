-- Stable: where two values can't differ they are the same.
use Rattle.std.proofs.Common.{◌≡◌, ◌⊎◌, inl, inr, ℕ, zero, suc, Bool, true, false, List, [], ◌∷◌, Option, Some, None, refl, sym, ap, ◌∙◌}
use Rattle.std.specs.Coded.{Coded}
use base.Stored.{Gv, gnil, gnum, gcons}

abbrev pub Stable : Type 0 → Type 0
Stable A = (x y : A) → ((x ≡ y → ⊥) → ⊥) → x ≡ y

-- what is told whole by another type
pub stable_by : {A B : Type 0} → Stable B → (to : A → B) (from : B → A) → ((x : A) → from (to x) ≡ x) → Stable A
stable_by stable to from back x y may =
    sym (back x) ∙ ap from (stable (to x) (to y) (λ differ. may (λ same. differ (ap to same)))) ∙ back y

pub stable_unit : Stable (Unit {0})
stable_unit x y may = refl

pub stable_ℕ : Stable ℕ
stable_ℕ zero zero may = refl
stable_ℕ zero (suc n) may = absurd (may (λ same. cc))
stable_ℕ (suc m) zero may = absurd (may (λ same. cc))
stable_ℕ (suc m) (suc n) may = ap suc (stable_ℕ m n (λ differ. may (λ same. differ (cc))))

pub stable_bool : Stable Bool
stable_bool true true may = refl
stable_bool false false may = refl
stable_bool true false may = absurd (may (λ same. cc))
stable_bool false true may = absurd (may (λ same. cc))

pub stable× : {A B : Type 0} → Stable A → Stable B → Stable (A × B)
stable× a b x y may =
    λ i. (a x.0 y.0 (λ differ. may (λ same. differ (ap (λ p. p.0) same))) i, b x.1 y.1 (λ differ. may (λ same. differ (ap (λ p. p.1) same))) i)

pub stable⊎ : {A B : Type 0} → Stable A → Stable B → Stable (A ⊎ B)
stable⊎ a b (inl x) (inl y) may = ap inl (a x y (λ differ. may (λ same. differ (cc))))
stable⊎ a b (inr x) (inr y) may = ap inr (b x y (λ differ. may (λ same. differ (cc))))
stable⊎ a b (inl x) (inr y) may = absurd (may (λ same. cc))
stable⊎ a b (inr x) (inl y) may = absurd (may (λ same. cc))

pub stable_list : {A : Type 0} → Stable A → Stable (List A)
stable_list a [] [] may = refl
stable_list a [] (y ∷ ys) may = absurd (may (λ same. cc))
stable_list a (x ∷ xs) [] may = absurd (may (λ same. cc))
stable_list a (x ∷ xs) (y ∷ ys) may =
    λ i. a x y (λ differ. may (λ same. differ (cc))) i ∷ stable_list a xs ys (λ differ. may (λ same. differ (cc))) i

pub stable_option : {A : Type 0} → Stable A → Stable (Option A)
stable_option a None None may = refl
stable_option a None (Some y) may = absurd (may (λ same. cc))
stable_option a (Some x) None may = absurd (may (λ same. cc))
stable_option a (Some x) (Some y) may = ap Some (a x y (λ differ. may (λ same. differ (cc))))

pub stable_each : {A B : Type 0} → Stable B → Stable (A → B)
stable_each b f g may = λ i x. b (f x) (g x) (λ differ. may (λ same. differ (ap (λ h. h x) same))) i

-- the trees of numbers by which the types of code are told
stable_tree : Stable Gv
stable_tree gnil gnil may = refl
stable_tree (gnum m) (gnum n) may = ap gnum (stable_ℕ m n (λ differ. may (λ same. differ (cc))))
stable_tree (gcons a b) (gcons c d) may =
    λ i. gcons (stable_tree a c (λ differ. may (λ same. differ (cc))) i) (stable_tree b d (λ differ. may (λ same. differ (cc))) i)
stable_tree gnil (gnum n) may = absurd (may (λ same. cc))
stable_tree gnil (gcons c d) may = absurd (may (λ same. cc))
stable_tree (gnum m) gnil may = absurd (may (λ same. cc))
stable_tree (gnum m) (gcons c d) may = absurd (may (λ same. cc))
stable_tree (gcons a b) gnil may = absurd (may (λ same. cc))
stable_tree (gcons a b) (gnum n) may = absurd (may (λ same. cc))

pub stable_coded : {A : Type 0} → Coded A → Stable A
stable_coded c x y may = c.inj x y (stable_tree (c.code x) (c.code y) (λ differ. may (λ same. differ (ap c.code same))))
