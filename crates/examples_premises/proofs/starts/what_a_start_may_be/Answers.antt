use Rattle.std.proofs.Common.{◌≡◌, ◌≤◌, ℕ, true, List, [], ◌∷◌, if◌then◌else◌, eqb, Option, Some, None, refl, arith}
use Rattle.std.specs.List.{All}
use Rattle.std.specs.Str.{bytes_eq}
use Rattle.std.proofs.lemmas.List.Elements.{All-nil, All-cons}
use Rattle.fk_model.specs.declared.limits.TheConstants.{MOST_STOPS, LAST_PORTER_SLOT}
use Rattle.fk_model.specs.Places.{Path, same_path}
use Rattle.fk_model.specs.Objects.{Body, is_served}
use Rattle.fk_model.specs.Objects.Body.{Space}
use Rattle.fk_model.specs.StateRows.{is_native}
use Rattle.fk_model.specs.Valid.{kind_there, birth_at, all_in}
use Rattle.fk_model.specs.Whole.{IsWhole}
use Rattle.fk_model.specs.Sound.{Errand, Saves, Makes, MayWork, names_of, are_user_pairs, bind_same, are_apart, is_listed, has_users_alone, Start, IsSoundStart}
use Rattle.examples_premises.specs.Starts.{starts, root, users, nester, port, thread, name, jobs, objects_with, after_births, bare, starts_with}
use Rattle.examples_premises.specs.Starts.{nothing_but_a_root}
use Rattle.examples_premises.proofs.Listed.{All as AllListed, IsShapedAt, whole, savable}
use Rattle.examples_premises.proofs.Apart.{uncut}
use Rattle.examples_premises.proofs.Starting.{idle, clean, exact}
use Rattle.examples_premises.proofs.starts.what_a_start_may_be.Goals as goal

abbrev listed : List (Path × Body)
listed = ([], Space 0 None) ∷ objects_with None thread

home : ℕ → Path
unfolding same_path
home n = if eqb n 0 then [] else (if eqb n 1 then users else nester)

abbrev root_alone : List (Path × Body)
root_alone = ([], Space 0 None) ∷ []

shapes : AllListed IsShapedAt listed
unfolding starts
shapes = let few : 0 ≤ MOST_STOPS = omega arith in assumption few

-- after so many birth numbers, with any jobs that may work
starting : (next : ℕ) → IsWhole (after_births next) → next ≤ 256 → (js : List Errand)
    → All (MayWork (record (starts_with (after_births next)) { jobs = js })) js → are_apart bytes_eq (names_of js) ≡ true
    → IsSoundStart (record (starts_with (after_births next)) { jobs = js })
unfolding starts
starting next its few js may names = record {
  whole = its;
  savable = savable (after_births next) listed [] (λ x. refl) (λ s g. refl) refl refl shapes;
  uncut = uncut (after_births next) listed (λ x. refl) refl;
  clean = clean (after_births next) listed (λ x. refl) refl;
  idle = idle (after_births next) listed (λ x. refl) refl;
  few = few;
  served = exact listed is_served (λ x. x) (port ∷ []) refl refl;
  one_each = refl;
  porters = exact listed is_native (λ s. LAST_PORTER_SLOT ∷ s) (root ∷ nester ∷ []) refl refl;
  jobs = may;
  names = names;
  budget = (omega arith, omega arith);
}

whole_at_100 : IsWhole (after_births 100)
unfolding starts home kind_there
whole_at_100 = whole (after_births 100) listed [] (λ x. refl) (λ s g. refl) home (λ s. s) [] refl refl refl (omega arith)

whole_at_256 : IsWhole (after_births 256)
unfolding starts home kind_there
whole_at_256 = whole (after_births 256) listed [] (λ x. refl) (λ s g. refl) home (λ s. s) [] refl refl refl (omega arith)

-- ---- jobs

abbrev EachWorks : Start → List Errand → Type 0
EachWorks s [] = Unit {0}
EachWorks s (e ∷ es) = MayWork s e × EachWorks s es

all_work : (s : Start) (es : List Errand) → EachWorks s es → All (MayWork s) es
all_work s [] each = All-nil (MayWork s)
all_work s (e ∷ es) each = All-cons (MayWork s) e es each.0 (all_work s es each.1)

module _ (next : ℕ) (js : List Errand) where
  abbrev start : Start
  start = record (starts_with (after_births next)) { jobs = js }

  makes : (birth : ℕ) (at : Path) (slot : ℕ) (pairs : List (ℕ × ℕ)) → birth_at (after_births next) at ≡ Some birth
      → is_listed (root ∷ nester ∷ []) at ≡ true → slot ≤ 239 → are_user_pairs pairs ≡ true → are_apart bind_same pairs ≡ true
      → MayWork start (Makes birth slot pairs)
  makes birth at slot pairs named listed low users once = (record { nester = at; named = named; listed = listed; path = refl }, low, users, once)

  saves : (slot : ℕ) → slot ≤ 1 → has_users_alone start (slot ∷ root) ≡ true → (told : Option Path) (name : Option (List ℕ))
      → all_in (same_path root) told ≡ true → MayWork start (Saves 0 slot told name)
  unfolding starts
  saves slot low alone told name so = (record { nester = root; named = refl; listed = refl; path = so }, omega (arith, low), alone)

  usual : MayWork start (Saves 0 1 (Some root) (Some name)) × MayWork start (Makes 2 239 ((9, 4) ∷ (8, 4) ∷ []))
  unfolding starts
  usual = (saves 1 (omega arith) refl (Some root) (Some name) refl, makes 2 nester 239 ((9, 4) ∷ (8, 4) ∷ []) refl refl (omega arith) refl refl)

full : (next : ℕ) → IsWhole (after_births next) → next ≤ 256 → IsSoundStart (starts_with (after_births next))
unfolding starts
full next its few =
    let two = usual next jobs in
    starting next its few jobs (all_work (start next jobs) jobs (two.0, (two.1, tt))) refl

pub returns-clause-full : goal.returns-clause-full
unfolding starts
returns-clause-full c = full 100 whole_at_100 (omega arith)

pub returns-clause-last : goal.returns-clause-last
unfolding starts
returns-clause-last c = full 256 whole_at_256 (omega arith)

pub returns-clause-unnamed : goal.returns-clause-unnamed
unfolding starts
returns-clause-unnamed c =
    let js = Saves 0 1 None None ∷ Saves 0 1 None None ∷ [] in
    let its = saves 100 js 1 (omega arith) refl None None refl in
    starting 100 whole_at_100 (omega arith) js (all_work (start 100 js) js (its, (its, tt))) refl

pub returns-clause-again : goal.returns-clause-again
unfolding starts
returns-clause-again c =
    let js = Saves 0 1 (Some root) (Some name) ∷ Saves 0 0 None None ∷ Makes 0 1 [] ∷ Makes 0 1 [] ∷ [] in
    let its = makes 100 js 0 root 1 [] refl refl (omega arith) refl refl in
    starting 100 whole_at_100 (omega arith) js (all_work (start 100 js) js
    (saves 100 js 1 (omega arith) refl (Some root) (Some name) refl, (saves 100 js 0 (omega arith) refl None None refl, (its, (its, tt))))) refl

-- ---- the root alone

pub returns-clause-bare : goal.returns-clause-bare
unfolding starts home kind_there
returns-clause-bare c = record {
  whole = whole bare root_alone [] (λ x. refl) (λ s g. refl) (λ n. []) (λ s. s) [] refl refl refl (omega arith);
  savable = savable bare root_alone [] (λ x. refl) (λ s g. refl) refl refl (tt, tt);
  uncut = uncut bare root_alone (λ x. refl) refl;
  clean = clean bare root_alone (λ x. refl) refl;
  idle = idle bare root_alone (λ x. refl) refl;
  few = omega arith;
  served = exact root_alone is_served (λ x. x) [] refl refl;
  one_each = refl;
  porters = exact root_alone is_native (λ s. LAST_PORTER_SLOT ∷ s) [] refl refl;
  jobs = All-nil (MayWork nothing_but_a_root);
  names = refl;
  budget = (omega arith, omega arith);
}
