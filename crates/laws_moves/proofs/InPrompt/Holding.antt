-- A free caller's space_hold is ready, where no hold bars it.
use Rattle.std.proofs.Common.{◌≡◌, ℕ, Bool, true, false, not, List, [], ◌∷◌, Option, Some, None, Result, Ok, Err, refl, ap, sym, ◌∙◌, subst}
use Rattle.std.proofs.lemmas.Bool.{not-true, not-false, and_parts}
use Rattle.fk_model.specs.declared.stage.Stage.TheVariants.{SpaceHold}
use Rattle.fk_model.specs.declared.statuses.status.TheConstants.{HELD, DENIED}
use Rattle.fk_model.specs.Places.{Path, Ptr, leads_to, is_within}
use Rattle.fk_model.specs.Places.Ptr.{At}
use Rattle.fk_model.specs.Objects.{Body, space_of, and_then, or_else, holds}
use Rattle.fk_model.specs.Objects.Body.{Space}
use Rattle.fk_model.specs.World.{World}
use Rattle.fk_model.specs.World.Edit.{End, Finish, SetHolder}
use Rattle.fk_model.specs.Searches.{option_list, pointers}
use Rattle.fk_model.specs.Holds.{holder_of, decider, is_frozen_for, leads_to_frozen}
use Rattle.fk_model.specs.Outcomes.{Outcome, ◌>>=◌, refuse, when, Caller}
use Rattle.fk_model.specs.Outcomes.Outcome.{Refused}
use Rattle.fk_model.specs.Freezing.{MayAlter, are_unfrozen}
use Rattle.fk_model.specs.Readers.{object_in, space_argument}
use Rattle.fk_model.specs.LinkRows.{user_at}
use Rattle.fk_model.specs.SpaceRows.{is_held_by_other, space_hold}
use Rattle.fk_model.specs.Moves.{call_row, closed, porter_at, GoesAllowed}
use Rattle.laws_moves.proofs.InMachine.safety.Reads.{object_in-found}
use Rattle.fk_model.proofs.walks.PlaceLaws.{same_path_eq}
use Rattle.laws_moves.specs.Prompt.Prompt.{is_holdable, may_hold, SpaceHoldIsPrompt, PortersSpaceHoldIsPrompt}
use Rattle.laws_moves.proofs.InPrompt.Movers.{users-outcome, porters-outcome, unpicked, own-unfrozen}
use Rattle.laws_moves.proofs.InPrompt.Prompt.{IsOwn, own-may, users-own, porters-own}

module _ (w : World) (space : Path) (slot : ℕ) (own : IsOwn w space slot) where
  unfrozen-self : is_frozen_for w (slot ∷ space) (slot ∷ space) ≡ false
  unfrozen-self = own-unfrozen w space slot own.thread own.none own.there

  -- ---- the space that is held

  outer-or-own : (a b : Option Ptr) → holds (λ holder. not (leads_to (slot ∷ space) holder)) a ≡ false →
      holds (λ holder. not (leads_to (slot ∷ space) holder)) b ≡ false →
      holds (λ holder. not (leads_to (slot ∷ space) holder)) (or_else a b) ≡ false
  outer-or-own None b outer its = its
  outer-or-own (Some p) b outer its = outer

  held-unfrozen : (there : Path) (x : ℕ) → is_frozen_for w (slot ∷ space) there ≡ false → is_held_by_other w (slot ∷ space) (x ∷ there) ≡ false →
      is_frozen_for w (slot ∷ space) (x ∷ there) ≡ false
  unfolding decider
  held-unfrozen there x outer its = outer-or-own (decider w there) (holder_of (w.body (x ∷ there))) outer its

  -- its holder, if it has one, is the caller
  holder-unfrozen : (p : Ptr) → not (leads_to (slot ∷ space) p) ≡ false → leads_to_frozen w (slot ∷ space) p ≡ false
  holder-unfrozen (At y) h = let here = same_path_eq y (slot ∷ space) (not-false _ h) in rw here unfrozen-self
  holder-unfrozen p h = refl

  pointers-unfrozen : (o : Option Body) (holder : Option Ptr) → and_then space_of o ≡ Some holder →
      holds (λ holder. not (leads_to (slot ∷ space) holder)) (holder_of o) ≡ false →
      are_unfrozen w (slot ∷ space) (option_list pointers o) ≡ true
  pointers-unfrozen (Some (Space birth None)) holder seen its = refl
  pointers-unfrozen (Some (Space birth (Some p))) holder seen its = let free = holder-unfrozen p its in rw free refl
  pointers-unfrozen (Some b) holder seen its = cc
  pointers-unfrozen None holder seen its = cc

  may-hold : (there : Path) (x : ℕ) (holder : Option Ptr) → and_then space_of (w.body (x ∷ there)) ≡ Some holder →
      is_frozen_for w (slot ∷ space) there ≡ false → is_held_by_other w (slot ∷ space) (x ∷ there) ≡ false →
      MayAlter w (slot ∷ space) (x ∷ there) (SetHolder (Some (At (slot ∷ space))))
  may-hold there x holder seen outer its = record {
    object = held-unfrozen there x outer its;
    changed = pointers-unfrozen (w.body (x ∷ there)) holder seen its;
    made = rw unfrozen-self refl;
  }

  space-there : (c : Caller) (there : Path) (x : ℕ) (holder : Option Ptr) → object_in w c space_of there x ≡ Ok holder →
      and_then space_of (w.body (x ∷ there)) ≡ Some holder
  space-there c there x holder read = let found = object_in-found w c space_of there x holder read in rw found.there found.seen

  -- ---- a user

  module _ (s x : ℕ) where
    abbrev Ready : Outcome → Type 0
    Ready o = GoesAllowed w (slot ∷ space) (closed (user_at (slot ∷ space)) o)

    ready-refused : (status : ℕ) → Ready (Refused status)
    ready-refused status = (own-may w space slot own (End status []) refl refl, tt)

    ready-read : {A : Type 0} (r : Result A ℕ) (go : A → Outcome) → ((a : A) → r ≡ Ok a → Ready (go a)) → Ready (r >>= go)
    ready-read (Ok a) go going = going a refl
    ready-read (Err status) go going = ready-refused status

    ready-refuse : (status : ℕ) (test : Bool) (go : Unit {0} → Outcome) → (test ≡ false → Ready (go tt)) → Ready (refuse status test >>= go)
    ready-refuse status true go going = ready-refused status
    ready-refuse status false go going = going refl

    ready-when : (test : Bool) (o : Outcome) → test ≡ true → Ready o → Ready (when test o)
    ready-when true o e ready = ready
    ready-when false o e ready = cc

    row-ready : may_hold w (user_at (slot ∷ space)) x (space_argument w (user_at (slot ∷ space)) s) ≡ true →
        Ready (space_hold w (user_at (slot ∷ space)) s x)
    unfolding space_hold
    row-ready may =
        ready-read (space_argument w (user_at (slot ∷ space)) s) _ (λ there place.
        ready-read (object_in w (user_at (slot ∷ space)) space_of there x) _ (λ holder read.
        ready-refuse HELD (is_frozen_for w (slot ∷ space) there) _ (λ outer.
        ready-refuse DENIED (is_within (x ∷ there) space) _ (λ below.
        let free : is_holdable w (slot ∷ space) (x ∷ there) ≡ true = rw place at may in
        let other = not-true _ (and_parts _ _ free).0 in
        ready-when _ _ free (
          may-hold there x holder (space-there (user_at (slot ∷ space)) there x holder read) outer other,
          (own-may w space slot own (Finish []) refl refl, tt),
        )))))

  -- ---- a porter

  module _ (s x : ℕ) (given : List ℕ) where
    abbrev PorterReady : Outcome → Type 0
    PorterReady o = GoesAllowed w (slot ∷ space) (closed (porter_at (slot ∷ space) given) o)

    porter-read : {A : Type 0} (r : Result A ℕ) (go : A → Outcome) → ((a : A) → r ≡ Ok a → PorterReady (go a)) → PorterReady (r >>= go)
    porter-read (Ok a) go going = going a refl
    porter-read (Err status) go going = tt

    porter-refuse : (status : ℕ) (test : Bool) (go : Unit {0} → Outcome) → (test ≡ false → PorterReady (go tt)) → PorterReady (refuse status test >>= go)
    porter-refuse status true go going = tt
    porter-refuse status false go going = going refl

    porter-when : (test : Bool) (o : Outcome) → test ≡ true → PorterReady o → PorterReady (when test o)
    porter-when true o e ready = ready
    porter-when false o e ready = cc

    porter-ready : may_hold w (porter_at (slot ∷ space) given) x (space_argument w (porter_at (slot ∷ space) given) s) ≡ true →
        PorterReady (space_hold w (porter_at (slot ∷ space) given) s x)
    unfolding space_hold
    porter-ready may =
        porter-read (space_argument w (porter_at (slot ∷ space) given) s) _ (λ there place.
        porter-read (object_in w (porter_at (slot ∷ space) given) space_of there x) _ (λ holder read.
        porter-refuse HELD (is_frozen_for w (slot ∷ space) there) _ (λ outer.
        porter-refuse DENIED (is_within (x ∷ there) space) _ (λ below.
        let free : is_holdable w (slot ∷ space) (x ∷ there) ≡ true = rw place at may in
        let other = not-true _ (and_parts _ _ free).0 in
        porter-when _ _ free
        (may-hold there x holder (space-there (porter_at (slot ∷ space) given) there x holder read) outer other, tt)))))

pub space_hold_is_prompt : SpaceHoldIsPrompt
unfolding call_row
space_hold_is_prompt w space slot s x at may =
    subst (GoesAllowed w (slot ∷ space))
    (sym (users-outcome w space slot (SpaceHold s x) at
    ∙ ap (closed (user_at (slot ∷ space))) (unpicked (space_hold w (user_at (slot ∷ space)) s x))))
    (row-ready w space slot (users-own w space slot (SpaceHold s x) at) s x may)

pub porters_space_hold_is_prompt : PortersSpaceHoldIsPrompt
unfolding call_row
porters_space_hold_is_prompt w space slot s x given at may =
    subst (GoesAllowed w (slot ∷ space))
    (sym (porters-outcome w space slot (SpaceHold s x) given at
    ∙ ap (closed (porter_at (slot ∷ space) given)) (unpicked (space_hold w (porter_at (slot ∷ space) given) s x))))
    (porter-ready w space slot (porters-own w space slot (SpaceHold s x) at) s x given may)
