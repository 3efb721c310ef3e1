use Rattle.std.proofs.Common.{◌≡◌, ℕ, ◌≤◌, Bool, true, false, ◌||◌, List, [], ◌∷◌, Option, Some, None, refl, sym, ap, subst, ◌∙◌, arith, ◌⊎◌, inl, inr}
use Rattle.std.proofs.lemmas.List.Elements.{All-head}
use Rattle.fk_model.specs.Places.{Path, same_path}
use Rattle.fk_model.specs.Valid.{birth_at}
use Rattle.fk_model.specs.Sound.{Errand, Saves, Makes, HasNester, MayWork, is_listed, has_users_alone, IsSoundStart}
use Rattle.fk_model.proofs.walks.PlaceLaws.{same_path_eq}
use Rattle.examples_premises.specs.Starts.{starts, root, nester, name, works_at, serves_users}
use Rattle.examples_premises.proofs.starts.jobs_that_may_not_work.Goals as goal

first_works : (e : Errand) (es : List Errand) → IsSoundStart (works_at (e ∷ es)) → MayWork (works_at (e ∷ es)) e
first_works e es sound = All-head (MayWork (works_at (e ∷ es))) e es sound.jobs

-- the nesters are the root and one more
one_of_two : (x : Path) → is_listed (root ∷ nester ∷ []) x ≡ true → (x ≡ root) ⊎ (x ≡ nester)
one_of_two x h = by (same_path x root) refl (same_path x nester) refl h
  where
    by : (a : Bool) → same_path x root ≡ a → (b : Bool) → same_path x nester ≡ b → (a || (b || false)) ≡ true → (x ≡ root) ⊎ (x ≡ nester)
    by true e b f g = inl (same_path_eq x root e)
    by false e true f g = inr (same_path_eq x nester f)
    by false e false f g = cc

-- they have the birth numbers 0 and 2
number_of : (js : List Errand) (birth : ℕ) (told : Option Path) → HasNester (works_at js) birth told → (birth ≡ 0) ⊎ (birth ≡ 2)
unfolding starts
number_of js birth told its = by (one_of_two its.nester its.listed)
  where
    by : (its.nester ≡ root) ⊎ (its.nester ≡ nester) → (birth ≡ 0) ⊎ (birth ≡ 2)
    by (inl at) = inl (let same = sym its.named ∙ ap (birth_at (works_at js).world) at in cc)
    by (inr at) = inr (let same = sym its.named ∙ ap (birth_at (works_at js).world) at in cc)

neither : (birth : ℕ) → (birth ≡ 0) ⊎ (birth ≡ 2) → (birth ≡ 0 → ⊥) → (birth ≡ 2 → ⊥) → ⊥
neither birth (inl e) not_0 not_2 = not_0 e
neither birth (inr e) not_0 not_2 = not_2 e

two_at_root : (js : List Errand) → HasNester (works_at js) 2 (Some root) → ⊥
unfolding starts
two_at_root js its =
    let at : its.nester ≡ root = same_path_eq its.nester root its.path in
    let same = sym its.named ∙ ap (birth_at (works_at js).world) at in
    cc

pub returns-clause-elsewhere : goal.returns-clause-elsewhere
returns-clause-elsewhere c = λ sound.
    two_at_root (Saves 2 1 (Some root) None ∷ []) (first_works (Saves 2 1 (Some root) None) [] sound).0

pub returns-clause-no_nester : goal.returns-clause-no_nester
unfolding starts
returns-clause-no_nester c = λ sound.
    neither 1 (number_of (Saves 1 0 None None ∷ []) 1 None (first_works (Saves 1 0 None None) [] sound).0) (λ e. cc) (λ e. cc)

pub returns-clause-nobody : goal.returns-clause-nobody
unfolding starts
returns-clause-nobody c = λ sound.
    neither 3 (number_of (Makes 3 1 [] ∷ []) 3 None (first_works (Makes 3 1 []) [] sound).0) (λ e. cc) (λ e. cc)

pub returns-clause-slot : goal.returns-clause-slot
unfolding starts
returns-clause-slot c = λ sound. let h : 240 ≤ 239 = (first_works (Makes 0 240 []) [] sound).1 in absurd (omega (arith, h))

pub returns-clause-bound_high : goal.returns-clause-bound_high
unfolding starts
returns-clause-bound_high c = λ sound. let h = (first_works (Makes 0 1 ((9, 240) ∷ [])) [] sound).2 in cc

pub returns-clause-bound_twice : goal.returns-clause-bound_twice
unfolding starts
returns-clause-bound_twice c = λ sound. let h = (first_works (Makes 0 1 ((9, 4) ∷ (9, 5) ∷ [])) [] sound).3 in cc

pub returns-clause-named_twice : goal.returns-clause-named_twice
unfolding starts
returns-clause-named_twice c = λ sound. let h = sound.names in cc

nests_inside : (js : List Errand) → MayWork (works_at js) (Saves 0 2 None None) → ⊥
unfolding starts
nests_inside js may = by may.0.nester (one_of_two may.0.nester may.0.listed) may.0.named may.2
  where
    by : (x : Path) → (x ≡ root) ⊎ (x ≡ nester) → birth_at (works_at js).world x ≡ Some 0 → has_users_alone (works_at js) (2 ∷ x) ≡ true → ⊥
    by x (inl e) named alone = let at = subst (λ (y : Path). has_users_alone (works_at js) (2 ∷ y) ≡ true) e alone in cc
    by x (inr e) named alone = let at = sym named ∙ ap (birth_at (works_at js).world) e in cc

pub returns-clause-nester_inside : goal.returns-clause-nester_inside
returns-clause-nester_inside c = λ sound. nests_inside (Saves 0 2 None None ∷ []) (first_works (Saves 0 2 None None) [] sound)

serves_inside : (its : HasNester serves_users 0 (Some root)) → has_users_alone serves_users (1 ∷ its.nester) ≡ true → ⊥
unfolding starts
serves_inside its alone =
    let at : its.nester ≡ root = same_path_eq its.nester root its.path in
    let none = subst (λ (y : Path). has_users_alone serves_users (1 ∷ y) ≡ true) at alone in
    cc

pub returns-clause-server_inside : goal.returns-clause-server_inside
returns-clause-server_inside c = λ sound.
    let first : MayWork serves_users (Saves 0 1 (Some root) (Some name)) =
    All-head (MayWork serves_users) (Saves 0 1 (Some root) (Some name)) (Makes 2 239 ((9, 4) ∷ (8, 4) ∷ []) ∷ []) sound.jobs in
    serves_inside first.0 first.2
