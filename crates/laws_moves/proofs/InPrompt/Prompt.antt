-- A free caller's get_state is ready, if its own address is open.
use Rattle.std.proofs.Common.{◌≡◌, ℕ, Bool, true, false, List, [], ◌∷◌, Some, None, Result, Ok, Err, refl, ap, sym, ◌∙◌, subst}
use Rattle.std.proofs.lemmas.Bool.{not-true}
use Rattle.fk_model.specs.declared.stage.Stage.{Stage}
use Rattle.fk_model.specs.declared.stage.Stage.TheVariants.{GetState}
use Rattle.fk_model.specs.declared.statuses.status.TheConstants.{BADADDRESS}
use Rattle.fk_model.specs.Places.{Path, Ptr}
use Rattle.fk_model.specs.Objects.{Thread, Body}
use Rattle.fk_model.specs.Objects.Body.{Thread_of}
use Rattle.fk_model.specs.World.{World, Edit, apply_all}
use Rattle.fk_model.specs.World.Edit.{End, Finish}
use Rattle.fk_model.specs.Reach.{Reach, reach_word}
use Rattle.fk_model.specs.Reach.Reach.{Home, Missing, Bad}
use Rattle.fk_model.specs.Holds.{decider, leads_to_frozen}
use Rattle.fk_model.specs.Outcomes.{Outcome, ◌>>=◌, refuse}
use Rattle.fk_model.specs.Outcomes.Said.{Nothing}
use Rattle.fk_model.specs.Outcomes.Outcome.{Refused, Goes}
use Rattle.fk_model.specs.Freezing.{MayAlter, changed_pointers, made_pointers}
use Rattle.fk_model.specs.Readers.{object_in, anything, space_argument, own_page_at, fault_on}
use Rattle.fk_model.specs.LinkRows.{user_at}
use Rattle.fk_model.specs.StateRows.{is_bad_record_address, shows, get_state}
use Rattle.fk_model.specs.Moves.{Step, call_row, closed, stepped, porter_at, GoesAllowed}
use Rattle.laws_moves.specs.Prompt.Callers.{IsUserAt, IsPorterFor}
use Rattle.laws_moves.specs.Prompt.Correct.{IsNamed}
use Rattle.laws_moves.specs.Prompt.Prompt.{is_open, GetStateIsPrompt, PortersGetStateIsPrompt, GetStateFaults}
use Rattle.laws_moves.proofs.InPrompt.Movers.{users-outcome, users-step, porters-outcome, unpicked, unheld-none, users-unheld, users-faultless, own-unfrozen}

-- ---- what a free thread may always do to itself

-- a thread in a space that nobody holds
pub record IsOwn (w : World) (space : Path) (slot : ℕ) : Type 0 where
  pub thread : Thread
  pub there : w.body (slot ∷ space) ≡ Some (Thread_of thread)
  pub none : decider w space ≡ None

pub own-may : (w : World) (space : Path) (slot : ℕ) (own : IsOwn w space slot) (edit : Edit) →
    changed_pointers edit (Thread_of own.thread) ≡ [] → made_pointers edit ≡ [] → MayAlter w (slot ∷ space) (slot ∷ space) edit
own-may w space slot own edit changed made = record {
  object = own-unfrozen w space slot own.thread own.none own.there;
  changed = rw (own.there, changed) refl;
  made = rw made refl;
}

pub users-own : (w : World) (space : Path) (slot : ℕ) (stage : Stage) → IsUserAt w space slot stage → IsOwn w space slot
users-own w space slot stage at =
    record { thread = at.thread; there = at.there; none = unheld-none w space (users-unheld w space slot stage at) }

pub porters-own : (w : World) (space : Path) (slot : ℕ) (stage : Stage) → IsPorterFor w space slot stage → IsOwn w space slot
porters-own w space slot stage at = record { thread = at.thread; there = at.there; none = unheld-none w space at.free }

-- ---- a user

module _ (w : World) (space : Path) (slot s x address : ℕ) (own : IsOwn w space slot) where
  abbrev Ready : Outcome → Type 0
  Ready o = GoesAllowed w (slot ∷ space) (closed (user_at (slot ∷ space)) o)

  ready-refused : (status : ℕ) → Ready (Refused status)
  ready-refused status = (own-may w space slot own (End status []) refl refl, tt)

  ready-read : {A : Type 0} (r : Result A ℕ) (go : A → Outcome) → ((a : A) → r ≡ Ok a → Ready (go a)) → Ready (r >>= go)
  ready-read (Ok a) go going = going a refl
  ready-read (Err status) go going = ready-refused status

  ready-refuse : (status : ℕ) (test : Bool) (go : Unit {0} → Outcome) → (test ≡ false → Ready (go tt)) → Ready (refuse status test >>= go)
  ready-refuse status true go going = ready-refused status
  ready-refuse status false go going = going refl

  module _ (faultless : own.thread.fault ≡ None) where
    ready-fault : (page : ℕ) (keeper : Ptr) → leads_to_frozen w (slot ∷ space) keeper ≡ false →
        Ready (Goes (fault_on (slot ∷ space) page true keeper ∷ []) Nothing)
    ready-fault page keeper free = (
      record {
        object = own-unfrozen w space slot own.thread own.none own.there;
        changed = rw (own.there, faultless) refl;
        made = rw free refl;
      },
      tt,
    )

    ready-page : (b : Body) (r : Reach) → is_open w (slot ∷ space) r ≡ true →
        Ready (own_page_at (slot ∷ space) true (shows w (user_at (slot ∷ space)) b address) r)
    ready-page b (Home t page) unbarred = (not-true _ unbarred, (own-may w space slot own (Finish []) refl refl, tt))
    ready-page b (Missing t page (Some keeper)) unbarred = ready-fault page keeper (not-true _ unbarred)
    ready-page b (Missing t page None) unbarred = ready-refused BADADDRESS
    ready-page b Bad unbarred = ready-refused BADADDRESS

    row-ready : is_open w (slot ∷ space) (reach_word w space address true) ≡ true → Ready (get_state w (user_at (slot ∷ space)) s x address)
    unfolding get_state
    row-ready unbarred =
        ready-read (space_argument w (user_at (slot ∷ space)) s) _ (λ there place.
        ready-read (object_in w (user_at (slot ∷ space)) anything there x) _ (λ b object.
        ready-refuse BADADDRESS (is_bad_record_address (user_at (slot ∷ space)) address) _ (λ good.
        ready-page b (reach_word w space address true) unbarred)))

pub get_state_is_prompt : GetStateIsPrompt
unfolding call_row users-own
get_state_is_prompt w space slot s x address at unbarred =
    subst (GoesAllowed w (slot ∷ space))
    (sym (users-outcome w space slot (GetState s x address) at
    ∙ ap (closed (user_at (slot ∷ space))) (unpicked (get_state w (user_at (slot ∷ space)) s x address))))
    (row-ready w space slot s x address (users-own w space slot (GetState s x address) at)
    (users-faultless w space slot (GetState s x address) at) unbarred)

-- ---- a porter, which nothing bars

module _ (w : World) (space : Path) (slot s x address : ℕ) (given : List ℕ) where
  abbrev PorterReady : Outcome → Type 0
  PorterReady o = GoesAllowed w (slot ∷ space) (closed (porter_at (slot ∷ space) given) o)

  porter-read : {A : Type 0} (r : Result A ℕ) (go : A → Outcome) → ((a : A) → PorterReady (go a)) → PorterReady (r >>= go)
  porter-read (Ok a) go going = going a
  porter-read (Err status) go going = tt

  porter-ready : PorterReady (get_state w (porter_at (slot ∷ space) given) s x address)
  unfolding get_state
  porter-ready =
      porter-read (space_argument w (porter_at (slot ∷ space) given) s) _ (λ there.
      porter-read (object_in w (porter_at (slot ∷ space) given) anything there x) _ (λ b. tt))

pub porters_get_state_is_prompt : PortersGetStateIsPrompt
unfolding call_row
porters_get_state_is_prompt w space slot s x address given at =
    subst (GoesAllowed w (slot ∷ space))
    (sym (porters-outcome w space slot (GetState s x address) given at
    ∙ ap (closed (porter_at (slot ∷ space) given)) (unpicked (get_state w (porter_at (slot ∷ space) given) s x address))))
    (porter-ready w space slot s x address given)

-- ---- a page that is missing

missing-row : (w : World) (space : Path) (slot s x address : ℕ) (b : Body) (at : Path) (page : ℕ) (keeper : Ptr) →
    IsNamed w (user_at (slot ∷ space)) s x b → is_bad_record_address (user_at (slot ∷ space)) address ≡ false →
    reach_word w space address true ≡ Missing at page (Some keeper) →
    get_state w (user_at (slot ∷ space)) s x address ≡ Goes (fault_on (slot ∷ space) page true keeper ∷ []) Nothing
unfolding get_state
missing-row w space slot s x address b at page keeper named good missing = rw (named.place, named.object, good, missing) refl

pub get_state_faults : GetStateFaults
unfolding call_row apply_all
get_state_faults w space slot s x address b away page keeper at named good missing =
    ap (λ (step : Step). step.world) (users-step w space slot (GetState s x address) at
    ∙ ap (λ o. stepped w (closed (user_at (slot ∷ space)) o)) (unpicked (get_state w (user_at (slot ∷ space)) s x address)
    ∙ missing-row w space slot s x address b away page keeper named good missing))
