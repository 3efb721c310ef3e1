-- To set the record that an object shows changes nothing.
use Rattle.std.proofs.Common.{◌≡◌, ℕ, zero, suc, ◌≤◌, ◌==◌, Bool, true, false, not, List, [], ◌∷◌, ◌++◌, map, take, Some, Result, Ok, refl, ap, sym, ◌∙◌, subst}
use Rattle.std.proofs.Common.{arith}
use Rattle.std.proofs.lemmas.List.{get_or-take}
use Rattle.fk_model.specs.declared.limits.TheConstants.{RECORD_WORDS}
use Rattle.fk_model.specs.declared.stage.Stage.TheVariants.{SetState}
use Rattle.fk_model.specs.declared.statuses.status.TheConstants.{OK, HELD, DENIED, BADADDRESS, NOTSTOPPED, BADSTATE}
use Rattle.fk_model.specs.Places.{Path}
use Rattle.fk_model.specs.Objects.{Body}
use Rattle.fk_model.specs.Objects.Body.{Mutex, Mapping, Region, Port, Thread_of}
use Rattle.fk_model.specs.World.{World, Change, apply, apply_all}
use Rattle.fk_model.specs.World.Change.{Alter}
use Rattle.fk_model.specs.World.Edit.{Finish}
use Rattle.fk_model.specs.Reach.{Reach, reach_word, words_at}
use Rattle.fk_model.specs.Reach.Reach.{Home, Missing, Bad}
use Rattle.fk_model.specs.Outcomes.{Outcome, ◌>>=◌, refuse}
use Rattle.fk_model.specs.Outcomes.Said.{Answered}
use Rattle.fk_model.specs.Outcomes.Outcome.{Refused}
use Rattle.fk_model.specs.Holds.{is_frozen_for}
use Rattle.fk_model.specs.Readers.{object_in, anything, space_argument, own_page_at}
use Rattle.fk_model.specs.LinkRows.{user_at}
use Rattle.fk_model.specs.Records.{record_of, record_registers, set_edits, takes_state}
use Rattle.fk_model.specs.Shapes.{IsShaped}
use Rattle.fk_model.specs.StateRows.{is_bad_record_address, is_native, is_still, sets_record, record_at, set_state}
use Rattle.fk_model.specs.Moves.{Step, call_row, closed, stepped, porter_at}
use Rattle.laws_moves.proofs.InMachine.Records.{record_changes_nothing_lem}
use Rattle.laws_moves.specs.Whole.Runnable.{HasRegisters}
use Rattle.laws_moves.proofs.InMachine.safety.Reads.{object-there}
use Rattle.laws_moves.specs.Prompt.Callers.{IsUserAt, is_done}
use Rattle.laws_moves.specs.Prompt.Correct.{words_found, MeetsItself, SetStateOfItself, GivesItself, PortersSetStateOfItself}
use Rattle.laws_moves.proofs.InPrompt.Movers.{users-step, porters-step, unpicked}
use Rattle.laws_moves.proofs.InPrompt.Correct.{refused-undone}

apply_all-append : (cs ds : List Change) (w : World) → apply_all (cs ++ ds) w ≡ apply_all ds (apply_all cs w)
unfolding apply_all
apply_all-append [] ds w = refl
apply_all-append (c ∷ cs) ds w = apply_all-append cs ds (apply c w)

module _ (w : World) (registers : HasRegisters w) (space : Path) (slot s x address : ℕ)
    (at : IsUserAt w space slot (SetState s x address)) where
  abbrev Kept : Outcome → Type 0
  Kept o = is_done (stepped w (closed (user_at (slot ∷ space)) o)).world (slot ∷ space) ≡ true →
      (stepped w (closed (user_at (slot ∷ space)) o)).world ≡ apply (Alter (slot ∷ space) (Finish [])) w

  kept-refused : (status : ℕ) → (status == OK) ≡ false → Kept (Refused status)
  kept-refused status told done = absurd (refused-undone w registers space slot (SetState s x address) at status told done)

  kept-read : {A : Type 0} (r : Result A ℕ) (a : A) (go : A → Outcome) → r ≡ Ok a → Kept (go a) → Kept (r >>= go)
  kept-read r a go e kept = rw e kept

  kept-refuse : (status : ℕ) (test : Bool) (go : Unit {0} → Outcome) → (status == OK) ≡ false → (test ≡ false → Kept (go tt)) →
      Kept (refuse status test >>= go)
  kept-refuse status true go told going = kept-refused status told
  kept-refuse status false go told going = going refl

  module _ (meets : MeetsItself w (user_at (slot ∷ space)) s x address) (shaped : IsShaped meets.body) where
    there : w.body (x ∷ meets.named.space) ≡ Some meets.body
    there = object-there w (user_at (slot ∷ space)) x meets.named.space meets.body meets.named.object

    kept-set : is_native meets.body ≡ false →
        apply_all (map (Alter (x ∷ meets.named.space)) (set_edits meets.body (record_of meets.body)) ++ Alter (slot ∷ space) (Finish []) ∷ []) w
        ≡ apply (Alter (slot ∷ space) (Finish [])) w
    unfolding apply_all
    kept-set off =
        apply_all-append (map (Alter (x ∷ meets.named.space)) (set_edits meets.body (record_of meets.body))) (Alter (slot ∷ space) (Finish []) ∷ []) w
        ∙ ap (apply_all (Alter (slot ∷ space) (Finish []) ∷ [])) (record_changes_nothing_lem w (x ∷ meets.named.space) meets.body there shaped off)

    kept-record : is_native meets.body ≡ false →
        Kept (sets_record w (user_at (slot ∷ space)) meets.named.space (x ∷ meets.named.space) meets.body (record_of meets.body))
    kept-record off =
        kept-refuse NOTSTOPPED (not (is_still w (user_at (slot ∷ space)) (x ∷ meets.named.space) meets.body)) _ refl (λ still.
        kept-refuse BADSTATE (not (takes_state w meets.named.space meets.body (record_of meets.body))) _ refl (λ takes done. kept-set off))

    abbrev sets : Path → ℕ → Outcome
    sets t page = sets_record w (user_at (slot ∷ space)) meets.named.space (x ∷ meets.named.space) meets.body (record_at (words_at w t page) address)

    kept-page : is_native meets.body ≡ false → (r : Reach) → words_found w address r ≡ Some (record_of meets.body) →
        Kept (own_page_at (slot ∷ space) false sets r)
    kept-page off (Home t page) found =
        let same : record_at (words_at w t page) address ≡ record_of meets.body = cc in
        subst (λ words. Kept (sets_record w (user_at (slot ∷ space)) meets.named.space (x ∷ meets.named.space) meets.body words))
        (sym same) (kept-record off)
    kept-page off (Missing t page keeper) found = cc
    kept-page off Bad found = cc

    row-kept : Kept (set_state w (user_at (slot ∷ space)) s x address)
    unfolding set_state
    row-kept =
        kept-read (space_argument w (user_at (slot ∷ space)) s) meets.named.space _ meets.named.place
        (kept-read (object_in w (user_at (slot ∷ space)) anything meets.named.space x) meets.body _ meets.named.object
        (kept-refuse HELD (is_frozen_for w (slot ∷ space) (x ∷ meets.named.space)) _ refl (λ free.
        kept-refuse DENIED (is_native meets.body) _ refl (λ off.
        kept-refuse BADADDRESS (is_bad_record_address (user_at (slot ∷ space)) address) _ refl (λ good.
        kept-page off (reach_word w space address false) meets.held)))))

pub set_state_of_itself : SetStateOfItself
unfolding call_row
set_state_of_itself w space slot s x address registers at meets shaped =
    subst (λ (step : Step). is_done step.world (slot ∷ space) ≡ true → step.world ≡ apply (Alter (slot ∷ space) (Finish [])) w)
    (sym (users-step w space slot (SetState s x address) at
    ∙ ap (λ o. stepped w (closed (user_at (slot ∷ space)) o)) (unpicked (set_state w (user_at (slot ∷ space)) s x address))))
    (row-kept w registers space slot s x address at meets shaped)

-- ---- a porter, whose words may be more than a record has

first-of : (n m : ℕ) (words : List ℕ) → n ≤ m → take n (take m words) ≡ take n words
first-of zero m words fits = refl
first-of (suc n) zero words fits = absurd (omega (arith, fits))
first-of (suc n) (suc m) [] fits = refl
first-of (suc n) (suc m) (a ∷ words) fits = ap (λ words. a ∷ words) (first-of n m words (omega (arith, fits)))

registers-first : (words : List ℕ) → record_registers (take RECORD_WORDS words) ≡ record_registers words
registers-first [] = refl
registers-first (a ∷ words) = first-of 16 31 words (omega arith)

edits-first : (b : Body) (words : List ℕ) → set_edits b (take RECORD_WORDS words) ≡ set_edits b words
edits-first (Mutex locked) words = rw (get_or-take RECORD_WORDS words 1 0 (omega arith)) refl
edits-first (Mapping m) words =
    rw (
      get_or-take RECORD_WORDS words 1 0 (omega arith),
      get_or-take RECORD_WORDS words 2 0 (omega arith),
      get_or-take RECORD_WORDS words 3 0 (omega arith),
      get_or-take RECORD_WORDS words 4 0 (omega arith),
    ) refl
edits-first (Region r) words =
    rw (
      get_or-take RECORD_WORDS words 1 0 (omega arith),
      get_or-take RECORD_WORDS words 2 0 (omega arith),
      get_or-take RECORD_WORDS words 3 0 (omega arith),
    ) refl
edits-first (Port set served) words = rw (get_or-take RECORD_WORDS words 1 0 (omega arith)) refl
edits-first (Thread_of t) words =
    rw (
      registers-first words,
      get_or-take RECORD_WORDS words 17 0 (omega arith),
      get_or-take RECORD_WORDS words 18 0 (omega arith),
      get_or-take RECORD_WORDS words 19 0 (omega arith),
      get_or-take RECORD_WORDS words 20 0 (omega arith),
    ) refl
edits-first b words = refl

module _ (w : World) (space : Path) (slot s x address : ℕ) (given : List ℕ) (gives : GivesItself w (porter_at (slot ∷ space) given) s x)
    (shaped : IsShaped gives.body) where
  abbrev PorterKept : Outcome → Type 0
  PorterKept o = (stepped w (closed (porter_at (slot ∷ space) given) o)).said ≡ Answered OK [] →
      (stepped w (closed (porter_at (slot ∷ space) given) o)).world ≡ w

  porter-refused : (status : ℕ) → (status == OK) ≡ false → PorterKept (Refused status)
  porter-refused status told said =
      let same : status ≡ OK = cc in
      let e : true ≡ false = rw same at told in cc

  porter-read : {A : Type 0} (r : Result A ℕ) (a : A) (go : A → Outcome) → r ≡ Ok a → PorterKept (go a) → PorterKept (r >>= go)
  porter-read r a go e kept = rw e kept

  porter-refuse : (status : ℕ) (test : Bool) (go : Unit {0} → Outcome) → (status == OK) ≡ false → (test ≡ false → PorterKept (go tt)) →
      PorterKept (refuse status test >>= go)
  porter-refuse status true go told going = porter-refused status told
  porter-refuse status false go told going = going refl

  porter-set : is_native gives.body ≡ false → apply_all (map (Alter (x ∷ gives.named.space)) (set_edits gives.body given)) w ≡ w
  porter-set off =
      ap (λ edits. apply_all (map (Alter (x ∷ gives.named.space)) edits) w)
      (sym (edits-first gives.body given) ∙ ap (set_edits gives.body) gives.given)
      ∙ record_changes_nothing_lem w (x ∷ gives.named.space) gives.body
      (object-there w (porter_at (slot ∷ space) given) x gives.named.space gives.body gives.named.object) shaped off

  row-porter : PorterKept (set_state w (porter_at (slot ∷ space) given) s x address)
  unfolding set_state
  row-porter =
      porter-read (space_argument w (porter_at (slot ∷ space) given) s) gives.named.space _ gives.named.place
      (porter-read (object_in w (porter_at (slot ∷ space) given) anything gives.named.space x) gives.body _ gives.named.object
      (porter-refuse HELD (is_frozen_for w (slot ∷ space) (x ∷ gives.named.space)) _ refl (λ free.
      porter-refuse DENIED (is_native gives.body) _ refl (λ off.
      porter-refuse NOTSTOPPED (not (is_still w (porter_at (slot ∷ space) given) (x ∷ gives.named.space) gives.body)) _ refl (λ still.
      porter-refuse BADSTATE (not (takes_state w gives.named.space gives.body given)) _ refl (λ takes said. porter-set off))))))

pub porters_set_state_of_itself : PortersSetStateOfItself
unfolding call_row
porters_set_state_of_itself w space slot s x address given at gives shaped =
    subst (λ (step : Step). step.said ≡ Answered OK [] → step.world ≡ w)
    (sym (porters-step w space slot (SetState s x address) given at
    ∙ ap (λ o. stepped w (closed (porter_at (slot ∷ space) given) o)) (unpicked (set_state w (porter_at (slot ∷ space) given) s x address))))
    (row-porter w space slot s x address given gives shaped)
