-- A thread that isn't a stranger lacks one of the facts; of the one that is, each slot of its space is looked at.
use Rattle.std.proofs.Common.{◌≡◌, ◌⊎◌, inl, inr, ℕ, eqb, Bool, true, false, not, List, [], ◌∷◌, None, option_map, if◌then◌else◌, refl, sym, ap, eqb-true}
use Rattle.std.proofs.lemmas.Bool.{or_cases}
use Rattle.std.specs.List.{list_all, list_any}
use Rattle.fk_model.specs.Places.{Path, same_path}
use Rattle.fk_model.specs.Places.Ptr.{Null}
use Rattle.fk_model.specs.Objects.{holds}
use Rattle.fk_model.specs.World.{World, Change, Edit, edited, apply, apply_all}
use Rattle.fk_model.specs.World.Change.{Alter}
use Rattle.fk_model.specs.World.Edit.{SetPointer, Finish}
use Rattle.fk_model.specs.Searches.{pointers}
use Rattle.fk_model.specs.Runs.{run}
use Rattle.fk_model.specs.Seen.{leads_near, is_led_near}
use Rattle.examples_moves.specs.Worked.{goes}
use Rattle.examples_subtrees.specs.Cuts.{cut_worlds, beside, clearer, led_into}
use Rattle.examples_moves.proofs.FewSlots.{HasFew, is_among, world-few}
use Rattle.examples_moves.proofs.Tested.{and_left, and_right}
use Rattle.examples_subtrees.proofs.cuts.a_stranger_has_nothing_that_leads_near.Goals as goal

never : true ≡ false → ⊥
never h = cc

pub returns-clause-pointer : goal.returns-clause-pointer
unfolding cut_worlds
returns-clause-pointer c = λ s. never (s.apart 0)

pub returns-clause-talk : goal.returns-clause-talk
unfolding cut_worlds
returns-clause-talk c = λ s. never s.no_talk

pub returns-clause-above : goal.returns-clause-above
unfolding cut_worlds
returns-clause-above c = λ s. never s.aside

pub returns-clause-inside : goal.returns-clause-inside
unfolding cut_worlds
returns-clause-inside c = λ s. never s.outside

-- ---- once the reference is cleared, no slot of the space leads near

abbrev few : List ℕ
few = 0 ∷ 1 ∷ 2 ∷ 3 ∷ 4 ∷ 9 ∷ []

led_into-few : HasFew few led_into
unfolding led_into
led_into-few = world-few few _ _ refl

among : (P : ℕ → Bool) (ks : List ℕ) → list_all P ks ≡ true → (k : ℕ) → is_among ks k ≡ true → P k ≡ true
among P [] all k h = cc
among P (j ∷ ks) all k h = by (or_cases (eqb k j) (is_among ks k) h) (among P ks (and_right _ _ all) k)
  where
    by : (eqb k j ≡ true) ⊎ (is_among ks k ≡ true) → (is_among ks k ≡ true → P k ≡ true) → P k ≡ true
    by (inl e) rest = rw (eqb-true k j e) (and_left _ _ all)
    by (inr g) rest = rest g

-- what the move changes
abbrev cleared : List Change
cleared = Alter (beside 0) (SetPointer Null) ∷ Alter clearer (Finish []) ∷ []

alters-none : (x q : Path) (e : Edit) (w : World) → w.body q ≡ None → (apply (Alter x e) w).body q ≡ None
unfolding apply
alters-none x q e w none = by (same_path q x)
  where
    by : (b : Bool) → (if b then option_map (edited e) (w.body q) else w.body q) ≡ None
    by true = rw none refl
    by false = none

is_cleared : run led_into (goes clearer ∷ []) ≡ apply_all cleared led_into
unfolding cut_worlds
is_cleared = refl

cleared-none : (q : Path) → led_into.body q ≡ None → (run led_into (goes clearer ∷ [])).body q ≡ None
unfolding apply_all
cleared-none q none = rw is_cleared
    (alters-none clearer q (Finish []) (apply (Alter (beside 0) (SetPointer Null)) led_into) (alters-none (beside 0) q (SetPointer Null) led_into none))

apart : (k : ℕ) → is_led_near (run led_into (goes clearer ∷ [])) (1 ∷ []) (k ∷ 2 ∷ []) ≡ false
unfolding cut_worlds
apart k = by (is_among few k) refl
  where
    flip : (b : Bool) → not b ≡ true → b ≡ false
    flip true h = sym h
    flip false h = refl

    by : (b : Bool) → is_among few k ≡ b → is_led_near (run led_into (goes clearer ∷ [])) (1 ∷ []) (k ∷ 2 ∷ []) ≡ false
    by true e = flip _ (among (λ j. not (is_led_near (run led_into (goes clearer ∷ [])) (1 ∷ []) (j ∷ 2 ∷ []))) few refl k e)
    by false e = ap (holds (λ b. list_any (leads_near (1 ∷ [])) (pointers b))) (cleared-none (k ∷ 2 ∷ []) (led_into-few.none k (2 ∷ []) e))

pub returns-clause-stranger : goal.returns-clause-stranger
unfolding cut_worlds
returns-clause-stranger c = record { outside = refl; aside = refl; apart = apart; no_talk = refl; no_fault = refl }
