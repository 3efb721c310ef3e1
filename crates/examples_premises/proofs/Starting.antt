-- What is tested of each object that a world lists holds of the world: that nothing is under way, and who serves and nests where.
use Rattle.std.proofs.Common.{◌≡◌, Bool, true, false, not, ◌&&◌, ◌||◌, is_some, is_none, List, [], ◌∷◌, Option, None, Some, refl, sym, ◌∙◌}
use Rattle.std.specs.List.{list_all, list_any}
use Rattle.std.proofs.lemmas.Bool.{and_parts}
use Rattle.fk_model.specs.Places.{Path, same_path}
use Rattle.fk_model.specs.Objects.{Talk, Fault, Thread, Body, thread_of, and_then, holds}
use Rattle.fk_model.specs.World.{World}
use Rattle.fk_model.specs.Holds.{holder_of}
use Rattle.fk_model.specs.ObjectRows.{is_scratch}
use Rattle.fk_model.specs.Sound.{IsClean, IsIdle}
use Rattle.fk_model.proofs.walks.PlaceLaws.{same_path_eq}
use Rattle.examples_moves.specs.Worked.{body_in}
use Rattle.examples_premises.proofs.Listed.{found}

-- ---- one by one

abbrev talk_in : Option Body → Option Talk
talk_in o = and_then (λ (t : Thread). t.talk) (and_then thread_of o)

abbrev fault_in : Option Body → Option Fault
fault_in o = and_then (λ (t : Thread). t.fault) (and_then thread_of o)

abbrev pub is_idle_at : Path → Body → Bool
is_idle_at x b = is_none (holder_of (Some b)) && is_none (talk_in (Some b)) && is_none (fault_in (Some b))

abbrev pub is_clean_at : Path → Body → Bool
is_clean_at [] b = true
is_clean_at (k ∷ s) b = not (is_scratch s (k ∷ s))

none : {A : Type 0} (o : Option A) → is_none o ≡ true → o ≡ None
none None h = refl
none (Some a) h = cc

clash : (t : Bool) → t ≡ true → not t ≡ true → ⊥
clash true e h = cc
clash false e h = cc

abbrev pub agree : Bool → Bool → Bool
agree true b = b
agree false b = not b

agreed : (a b : Bool) → agree a b ≡ true → a ≡ b
agreed true b h = sym h
agreed false true h = cc
agreed false false h = refl

-- ---- a test that only objects at some paths pass, each of which is there

module _ (es : List (Path × Body)) (test : Body → Bool) (place : Path → Path) (spaces : List Path) where
  abbrev pub is_place : Path → Bool
  is_place x = list_any (λ s. same_path x (place s)) spaces

  off_empty : (x : Path) → body_in es x ≡ None → (ss : List Path) → list_all (λ s. is_some (body_in es (place s))) ss ≡ true
      → list_any (λ s. same_path x (place s)) ss ≡ false
  off_empty x empty [] all = refl
  off_empty x empty (s ∷ ss) all =
      let both = and_parts (is_some (body_in es (place s))) (list_all (λ r. is_some (body_in es (place r))) ss) all in
      by both.0 (same_path x (place s)) refl (off_empty x empty ss both.1)
    where
      by : is_some (body_in es (place s)) ≡ true → (b : Bool) → same_path x (place s) ≡ b → list_any (λ r. same_path x (place r)) ss ≡ false
          → (b || list_any (λ r. same_path x (place r)) ss) ≡ false
      by there true e later =
          let here = same_path_eq x (place s) e in
          let some : is_some (body_in es x) ≡ true = rw here there in
          let not_some : is_some (body_in es x) ≡ false = rw empty refl in
          absurd (cc)
      by there false e later = later

  pub exact : list_all (λ e. agree (test e.1) (is_place e.0)) es ≡ true → list_all (λ s. is_some (body_in es (place s))) spaces ≡ true
      → (x : Path) → holds test (body_in es x) ≡ is_place x
  exact each there x = by (body_in es x) refl
    where
      by : (o : Option Body) → body_in es x ≡ o → holds test o ≡ is_place x
      by None e = sym (off_empty x e spaces there)
      by (Some b) e = agreed (test b) (is_place x) (found (λ y c. agree (test c) (is_place y)) es each x b e)

-- ---- a world by its list

module _ (w : World) (es : List (Path × Body)) (bodies : (x : Path) → w.body x ≡ body_in es x) where
  pub idle : list_all (λ e. is_idle_at e.0 e.1) es ≡ true → IsIdle w
  idle all = record {
    unheld = λ x. (by x (w.body x) refl).0;
    untalked = λ x. (by x (w.body x) refl).1;
    unfaulted = λ x. (by x (w.body x) refl).2;
  }
    where
      by : (x : Path) (o : Option Body) → w.body x ≡ o → (holder_of o ≡ None) × (talk_in o ≡ None) × (fault_in o ≡ None)
      by x None e = (refl, refl, refl)
      by x (Some b) e =
          let its = found is_idle_at es all x b (sym (bodies x) ∙ e) in
          let most = and_parts (is_none (holder_of (Some b)) && is_none (talk_in (Some b))) (is_none (fault_in (Some b))) its in
          let first = and_parts (is_none (holder_of (Some b))) (is_none (talk_in (Some b))) most.0 in
          (none _ first.0, none _ first.1, none _ most.1)

  pub clean : list_all (λ e. is_clean_at e.0 e.1) es ≡ true → IsClean w
  clean all s k scratch = by (w.body (k ∷ s)) refl
    where
      by : (o : Option Body) → w.body (k ∷ s) ≡ o → o ≡ None
      by None e = refl
      by (Some b) e = absurd (clash (is_scratch s (k ∷ s)) scratch (found is_clean_at es all (k ∷ s) b (sym (bodies (k ∷ s)) ∙ e)))
