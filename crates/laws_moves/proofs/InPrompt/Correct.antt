-- What a thread gets of an object's state is its record.
use Rattle.std.proofs.Common.{◌≡◌, ℕ, ◌==◌, Bool, true, false, List, [], ◌∷◌, length, slice_index, slice_set, Option, Some, None, Result, Ok, Err, refl, ap}
use Rattle.std.proofs.Common.{sym, ◌∙◌, subst}
use Rattle.std.proofs.lemmas.Bool.{eq-eqb, not-false}
use Rattle.fk_model.specs.declared.stage.Stage.{Stage}
use Rattle.fk_model.specs.declared.stage.Stage.TheVariants.{GetState}
use Rattle.fk_model.specs.declared.statuses.status.TheConstants.{OK, BADADDRESS}
use Rattle.fk_model.specs.Places.{Path, Ptr}
use Rattle.fk_model.specs.Calls.{words}
use Rattle.fk_model.specs.Objects.{Fault, Body, registers_of}
use Rattle.fk_model.specs.Objects.Body.{Thread_of}
use Rattle.fk_model.specs.World.{World, Edit, apply, apply_all, edited}
use Rattle.fk_model.specs.World.Change.{Alter, PutPage}
use Rattle.fk_model.specs.World.Edit.{End, Finish, SetFault}
use Rattle.fk_model.specs.Reach.{Reach, reach_word, words_at}
use Rattle.fk_model.specs.Reach.Reach.{Home, Missing, Bad}
use Rattle.fk_model.specs.Outcomes.{Outcome, ◌>>=◌, refuse, done}
use Rattle.fk_model.specs.Outcomes.Said.{Answered}
use Rattle.fk_model.specs.Outcomes.Outcome.{Refused}
use Rattle.fk_model.specs.Readers.{object_in, anything, space_argument, own_page_at, fault_on}
use Rattle.fk_model.specs.LinkRows.{user_at}
use Rattle.fk_model.specs.Records.{record_of}
use Rattle.fk_model.specs.StateRows.{is_bad_record_address, shows, get_state, record_at}
use Rattle.fk_model.specs.Moves.{Step, call_row, closed, stepped, porter_at}
use Rattle.fk_model.proofs.walks.PlaceLaws.{same_path_refl}
use Rattle.laws_moves.specs.Whole.Runnable.{HasRegisters, IsRunnable}
use Rattle.laws_moves.proofs.InMachine.safety.Reads.{object-there}
use Rattle.laws_moves.proofs.InWhole.Objects.{has-all, length-record, record_place}
use Rattle.laws_moves.specs.Prompt.Callers.{IsUserAt, is_done}
use Rattle.laws_moves.specs.Prompt.Correct.{words_found, record_found, ShowsRecord, GetStateShows, AnswersRecord, GetStateAnswers}
use Rattle.laws_moves.proofs.InPrompt.Movers.{users-step, porters-step, unpicked}
use Rattle.laws_moves.proofs.InPrompt.Statuses.{told-object_in, told-space_argument, IsTold}
use Rattle.laws_moves.proofs.InPrompt.Pages.{reached-there, reached-full, record-read}
use Rattle.laws_moves.proofs.InPrompt.Reading.{reads-where-writes, reach_word-same}

-- ---- a refused call isn't done, nor one whose thread has a fault

first-set : (g : List ℕ) (v : ℕ) → length g ≡ 16 → slice_index (slice_set g 0 v) 0 ≡ v
first-set [] v h = cc
first-set (a ∷ g) v h = refl

-- what an edit makes of a body
after-edit : (w : World) (x : Path) (edit : Edit) (b : Body) → w.body x ≡ Some b → (apply_all (Alter x edit ∷ []) w).body x ≡ Some (edited edit b)
unfolding apply apply_all
after-edit w x edit b there = rw (same_path_refl x, there) refl

module _ (w : World) (registers : HasRegisters w) (space : Path) (slot : ℕ) (stage : Stage) (at : IsUserAt w space slot stage) where
  own-registers : length (words (stage ∷ []) at.rest) ≡ 16
  own-registers = ap (λ mode. length (registers_of mode)) (sym at.mode) ∙ registers (slot ∷ space) at.thread (rw at.there refl)

  pub refused-undone : (status : ℕ) → (status == OK) ≡ false →
      is_done (stepped w (closed (user_at (slot ∷ space)) (Refused status))).world (slot ∷ space) ≡ true → ⊥
  unfolding edited
  refused-undone status told done =
      let now = after-edit w (slot ∷ space) (End status []) (Thread_of at.thread) at.there in
      let same = first-set (words (stage ∷ []) at.rest) status own-registers in
      let e : false ≡ true = rw (now, at.mode, same, told) at done in cc

  pub faulted-undone : (page : ℕ) (write : Bool) (port : Ptr) →
      is_done (apply_all (fault_on (slot ∷ space) page write port ∷ []) w) (slot ∷ space) ≡ true → ⊥
  unfolding edited
  faulted-undone page write port done =
      let fault : Option Fault = Some (record { page = page; write = write; port = port; taker = None }) in
      let now = after-edit w (slot ∷ space) (SetFault fault) (Thread_of at.thread) at.there in
      let e : false ≡ true = rw (now, at.mode) at done in cc

-- ---- what stands at the address afterwards

put-read : (w : World) (t : Path) (page : ℕ) (put : List ℕ) (x : Path) (edit : Edit) →
    words_at (apply_all (PutPage t page put ∷ Alter x edit ∷ []) w) t page ≡ put
unfolding apply apply_all
put-read w t page put x edit = rw (same_path_refl t, eq-eqb page page refl) refl

module _ (w : World) (runs : IsRunnable w) (space : Path) (slot s x address : ℕ)
    (at : IsUserAt w space slot (GetState s x address)) where
  abbrev Shown : Outcome → Type 0
  Shown o = is_done (stepped w (closed (user_at (slot ∷ space)) o)).world (slot ∷ space) ≡ true →
      ShowsRecord w (stepped w (closed (user_at (slot ∷ space)) o)).world (user_at (slot ∷ space)) s x address

  shown-refused : (status : ℕ) → (status == OK) ≡ false → Shown (Refused status)
  shown-refused status told done = absurd (refused-undone w runs.registers space slot (GetState s x address) at status told done)

  shown-read : {A : Type 0} (r : Result A ℕ) (go : A → Outcome) → IsTold r → ((a : A) → r ≡ Ok a → Shown (go a)) → Shown (r >>= go)
  shown-read (Ok a) go told going = going a refl
  shown-read (Err status) go told going = shown-refused status told

  shown-refuse : (status : ℕ) (test : Bool) (go : Unit {0} → Outcome) → (status == OK) ≡ false → (test ≡ false → Shown (go tt)) →
      Shown (refuse status test >>= go)
  shown-refuse status true go told going = shown-refused status told
  shown-refuse status false go told going = going refl

  -- what is found there afterwards is what was put there
  found-after : (put : List ℕ) (t : Path) (page : ℕ) → reach_word w space address true ≡ Home t page →
      record_found (apply_all (PutPage t page put ∷ Alter (slot ∷ space) (Finish []) ∷ []) w) space address
      ≡ Some (record_at (words_at (apply_all (PutPage t page put ∷ Alter (slot ∷ space) (Finish []) ∷ []) w) t page) address)
  found-after put t page e =
      ap (words_found (apply_all (PutPage t page put ∷ Alter (slot ∷ space) (Finish []) ∷ []) w) address)
      (reach_word-same w t page put (slot ∷ space) at.thread at.there (reached-there w space address true t page e) space address false
      ∙ reads-where-writes w space address t page e)

  shown-page : (there : Path) (b : Body) → space_argument w (user_at (slot ∷ space)) s ≡ Ok there →
      object_in w (user_at (slot ∷ space)) anything there x ≡ Ok b → is_bad_record_address (user_at (slot ∷ space)) address ≡ false →
      (r : Reach) → reach_word w space address true ≡ r → Shown (own_page_at (slot ∷ space) true (shows w (user_at (slot ∷ space)) b address) r)
  shown-page there b place object good (Home t page) e done = record {
    body = b;
    named = record { space = there; place = place; object = object };
    shown = found-after _ t page e ∙ ap Some (
        ap (λ words. record_at words address) (put-read w t page _ (slot ∷ space) (Finish []))
        ∙ record-read (words_at w t page) (record_of b) address (reached-full w runs.whole.full space address true t page e)
        (length-record b (has-all w runs.registers (x ∷ there) b (object-there w (user_at (slot ∷ space)) x there b object)))
        (record_place address (not-false _ good)));
  }
  shown-page there b place object good (Missing t page (Some keeper)) e done =
      absurd (faulted-undone w runs.registers space slot (GetState s x address) at page true keeper done)
  shown-page there b place object good (Missing t page None) e done = shown-refused BADADDRESS refl done
  shown-page there b place object good Bad e done = shown-refused BADADDRESS refl done

  row-shown : Shown (get_state w (user_at (slot ∷ space)) s x address)
  unfolding get_state
  row-shown =
      shown-read (space_argument w (user_at (slot ∷ space)) s) _ (told-space_argument w (user_at (slot ∷ space)) s) (λ there place.
      shown-read (object_in w (user_at (slot ∷ space)) anything there x) _ (told-object_in w (user_at (slot ∷ space)) anything there x) (λ b object.
      shown-refuse BADADDRESS (is_bad_record_address (user_at (slot ∷ space)) address) _ refl (λ good.
      shown-page there b place object good (reach_word w space address true) refl)))

pub get_state_shows : GetStateShows
unfolding call_row
get_state_shows w space slot s x address runs at =
    subst (λ (step : Step). is_done step.world (slot ∷ space) ≡ true → ShowsRecord w step.world (user_at (slot ∷ space)) s x address)
    (sym (users-step w space slot (GetState s x address) at
    ∙ ap (λ o. stepped w (closed (user_at (slot ∷ space)) o)) (unpicked (get_state w (user_at (slot ∷ space)) s x address))))
    (row-shown w runs space slot s x address at)

-- ---- a porter's answer

module _ (w : World) (space : Path) (slot s x address : ℕ) (given : List ℕ) where
  abbrev Answers : Outcome → Type 0
  Answers o = (answer : List ℕ) → (stepped w (closed (porter_at (slot ∷ space) given) o)).said ≡ Answered OK answer →
      AnswersRecord w (porter_at (slot ∷ space) given) s x answer

  answers-refused : (status : ℕ) → (status == OK) ≡ false → Answers (Refused status)
  answers-refused status told answer said =
      let same : status ≡ OK = cc in
      let e : true ≡ false = rw same at told in cc

  answers-read : {A : Type 0} (r : Result A ℕ) (go : A → Outcome) → IsTold r → ((a : A) → r ≡ Ok a → Answers (go a)) → Answers (r >>= go)
  answers-read (Ok a) go told going = going a refl
  answers-read (Err status) go told going = answers-refused status told

  row-answers : Answers (get_state w (porter_at (slot ∷ space) given) s x address)
  unfolding get_state
  row-answers =
      answers-read (space_argument w (porter_at (slot ∷ space) given) s) _ (told-space_argument w (porter_at (slot ∷ space) given) s) (λ there place.
      answers-read (object_in w (porter_at (slot ∷ space) given) anything there x) _ (told-object_in w (porter_at (slot ∷ space) given) anything there x)
      (λ b object answer said. record { body = b; named = record { space = there; place = place; object = object }; answered = cc }))

pub get_state_answers : GetStateAnswers
unfolding call_row
get_state_answers w space slot s x address given answer at =
    subst (λ (step : Step). step.said ≡ Answered OK answer → AnswersRecord w (porter_at (slot ∷ space) given) s x answer)
    (sym (porters-step w space slot (GetState s x address) given at
    ∙ ap (λ o. stepped w (closed (porter_at (slot ∷ space) given) o)) (unpicked (get_state w (porter_at (slot ∷ space) given) s x address))))
    (row-answers w space slot s x address given answer)
