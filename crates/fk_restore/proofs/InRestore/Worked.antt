-- What the code does at a place of the script is what the machine does with what is left from there on.
use Rattle.std.proofs.Common.{◌≡◌, ℕ, Bool, true, false, not, cond, ◌&&◌, ◌==◌, List, [], ◌∷◌, Option, Some, None, option_map, is_none, drop, refl, sym, ap}
use Rattle.std.proofs.Common.{subst, ◌∙◌}
use Rattle.fk_model.specs.declared.stage.Stage.{Stage}
use Rattle.fk_model.specs.declared.stage.Stage.TheVariants.{SpaceRelease}
use Rattle.fk_model.specs.declared.limits.TheConstants.{OWN_SPACE}
use Rattle.fk_model.specs.declared.statuses.status.TheConstants.{OK}
use Rattle.fk_image.specs.declared.image.image.Image.{Image}
use Rattle.fk_image.specs.declared.image.image.SpaceRec.{SpaceRec}
use Rattle.fk_image.specs.Image.Valid.{is_valid}
use Rattle.laws_jobs.specs.Machines.{no_words, IsAtCall}
use Rattle.laws_jobs.specs.Machines.Head.{Asks}
use Rattle.laws_restore.specs.Sites.Orders.{Order, stage_of, words_of}
use Rattle.laws_restore.specs.Restore.Restore.{State, State as states, End as ends, drops, head, next}
use Rattle.laws_restore.specs.Rooms.Restoring.{bound_by, restore_of}
use Rattle.laws_restore.specs.Rooms.Rooms.{rooms_of}
use Rattle.fk_restore.specs.declared.positions.position.Position.{Position}
use Rattle.fk_restore.specs.Positions.Positions.{rest, order_at, next_of, IsPosition}
use Rattle.fk_restore.specs.declared.orders.looks.Look.{Look}
use Rattle.fk_restore.specs.Orders.Given.{words_in}
use Rattle.fk_restore.specs.Orders.Looks.{look_in, look_of}
use Rattle.fk_restore.specs.Orders.Left.{is_closing, is_empty}
use Rattle.fk_restore.proofs.InOrders.Lefts as lefts
use Rattle.fk_restore.specs.declared.restore.end.RestoreEnd.{RestoreEnd}
use Rattle.fk_restore.specs.declared.restore.restore.Phase.{Phase}
use Rattle.fk_restore.specs.declared.restore.restore.Phase.TheVariants as phases
use Rattle.fk_restore.specs.Restore.Restores.{missing, goes_on, phase_of, IsSoundPhase, is_built}
use Rattle.fk_restore.proofs.InRestore.Heard.{heard}

-- ---- whether an order stands there, as its call says

no_order : (slot : ℕ) (o : Option Order) → None ≡ option_map (stage_of slot) o → o ≡ None
no_order slot None e = refl
no_order slot (Some o) e = absurd cc

some_order : (slot : ℕ) (stage : Stage) (o : Option Order) → Some stage ≡ option_map (stage_of slot) o
    → (order : Order) × (o ≡ Some order) × (stage ≡ stage_of slot order)
some_order slot stage None e = absurd cc
some_order slot stage (Some o) e = (o, refl, cc)

pub unordered : (slot : ℕ) (o : Option Order) → is_none o ≡ true → None ≡ option_map (stage_of slot) o
unordered slot None none = refl
unordered slot (Some o) none = absurd cc

pub ordered : (slot : ℕ) (o : Option Order) → is_none o ≡ false → (stage : Stage) × (Some stage ≡ option_map (stage_of slot) o)
ordered slot None some = absurd cc
ordered slot (Some o) some = (stage_of slot o, refl)

-- without one it is an end
closed : (p : Position) (o : Option Order) → is_empty p o ≡ false → o ≡ None → is_closing p ≡ true
closed p o full none = by (is_closing p) o full none
  where
    by : (c : Bool) (o : Option Order) → (not c && is_none o) ≡ false → o ≡ None → c ≡ true
    by true o full none = refl
    by false None full none = absurd cc
    by false (Some o) full none = absurd cc

module _ (i : Image) (slot : ℕ) (pairs : List (ℕ × ℕ)) (p : Position) where
  abbrev Here : Option Order
  Here = order_at i.spaces slot (bound_by pairs) p

  abbrev Left : List Order
  Left = rest i.spaces slot (bound_by pairs) p

  abbrev Then : List Order
  Then = rest i.spaces slot (bound_by pairs) (next_of i.spaces slot (bound_by pairs) p)

  nothing_left : is_empty p Here ≡ false → None ≡ option_map (stage_of slot) Here → Left ≡ []
  nothing_left full none = let none_here = no_order slot Here none in lefts.ends i.spaces slot (bound_by pairs) p (closed p Here full none_here) none_here

  -- ---- the call

  pub calls_release : is_empty p Here ≡ false → None ≡ option_map (stage_of slot) Here
      → head slot (states.Works Left) ≡ Asks (SpaceRelease OWN_SPACE slot) no_words
  calls_release full none = ap (λ os. head slot (states.Works os)) (nothing_left full none)

  pub calls_order : is_valid i ≡ true → IsPosition i.spaces slot (bound_by pairs) p → (stage : Stage) (words : List ℕ) →
      Some stage ≡ option_map (stage_of slot) Here → words ≡ words_in Here → head slot (states.Works Left) ≡ Asks stage words
  calls_order valid good stage words some given =
      let found = some_order slot stage Here some in
      let step = lefts.stands i slot (bound_by pairs) p found.0 valid good found.1 in
      ap (λ os. head slot (states.Works os)) step.0 ∙ (λ j. Asks (sym found.2 j) (sym (given ∙ ap words_in found.1) j))

  -- only the release is left exactly where no order stands there
  pub is_built_there : is_valid i ≡ true → IsPosition i.spaces slot (bound_by pairs) p → is_empty p Here ≡ false → is_none Here ≡ is_built (states.Works Left)
  is_built_there valid good full = by Here refl
    where
      by : (o : Option Order) → Here ≡ o → is_none o ≡ is_built (states.Works Left)
      by None none = sym (ap (λ os. is_built (states.Works os)) (lefts.ends i.spaces slot (bound_by pairs) p (closed p Here full none) none))
      by (Some o) some = sym (ap (λ os. is_built (states.Works os)) (lefts.stands i slot (bound_by pairs) p o valid good some).0)

  -- ---- the answer

  pub releases : is_empty p Here ≡ false → None ≡ option_map (stage_of slot) Here → (status : ℕ) (words : List ℕ) →
      states.Over ends.Done ≡ next slot (bound_by pairs) (rooms_of i) (states.Works Left) status words
  releases full none status words = sym (ap (λ os. next slot (bound_by pairs) (rooms_of i) (states.Works os) status words) (nothing_left full none))

  pub hears : is_valid i ≡ true → IsPosition i.spaces slot (bound_by pairs) p → (stage : Stage) → Some stage ≡ option_map (stage_of slot) Here →
      (look : Look) → look ≡ look_in Here → (port : Option ℕ) (status : ℕ) (words : List ℕ) → port ≡ missing look status words →
      goes_on i.spaces pairs Then port ≡ next slot (bound_by pairs) (rooms_of i) (states.Works Left) status words
  hears valid good stage some look is port status words e =
      let found = some_order slot stage Here some in
      let step = lefts.stands i slot (bound_by pairs) p found.0 valid good found.1 in
      ap (goes_on i.spaces pairs Then) (e ∙ ap (λ l. missing l status words) (is ∙ ap look_in found.1))
      ∙ sym (ap (λ os. next slot (bound_by pairs) (rooms_of i) (states.Works os) status words) step.0 ∙ heard slot i.spaces pairs Then status words found.0)

  -- the next place is one
  pub goes_well : is_valid i ≡ true → IsPosition i.spaces slot (bound_by pairs) p → (stage : Stage) → Some stage ≡ option_map (stage_of slot) Here →
      IsPosition i.spaces slot (bound_by pairs) (next_of i.spaces slot (bound_by pairs) p)
  goes_well valid good stage some =
      let found = some_order slot stage Here some in
      (lefts.stands i slot (bound_by pairs) p found.0 valid good found.1).1

-- ---- whether only the release is left

pub works_asks : (i : Image) (slot : ℕ) (pairs : List (ℕ × ℕ)) (phase : Phase) (p : Position) (ss : List SpaceRec) (bound : List (ℕ × ℕ))
    → IsSoundPhase i.spaces slot pairs phase → phase ≡ phases.Works p → ss ≡ i.spaces → bound ≡ pairs
    → is_empty p (order_at ss slot (bound_by bound) p) ≡ false
works_asks i slot pairs phase p ss bound sound works spaces bindings =
    let good = subst (λ (x : Phase). IsSoundPhase i.spaces slot pairs x) works sound in
    ap (λ (xs : List SpaceRec). is_empty p (order_at xs slot (bound_by bound) p)) spaces
    ∙ ap (λ (ps : List (ℕ × ℕ)). is_empty p (order_at i.spaces slot (bound_by ps) p)) bindings ∙ good.1

pub works_built : (i : Image) (slot : ℕ) (pairs : List (ℕ × ℕ)) (phase : Phase) (p : Position) (ss : List SpaceRec) (bound : List (ℕ × ℕ)) (over : Bool)
    → is_valid i ≡ true → IsSoundPhase i.spaces slot pairs phase → phase ≡ phases.Works p → ss ≡ i.spaces → bound ≡ pairs
    → over ≡ is_none (order_at ss slot (bound_by bound) p) → over ≡ is_built (phase_of i.spaces slot pairs phase)
works_built i slot pairs phase p ss bound over valid sound works spaces bindings told =
    let good = subst (λ (x : Phase). IsSoundPhase i.spaces slot pairs x) works sound in
    told ∙ ap (λ (xs : List SpaceRec). is_none (order_at xs slot (bound_by bound) p)) spaces
    ∙ ap (λ (ps : List (ℕ × ℕ)). is_none (order_at i.spaces slot (bound_by ps) p)) bindings
    ∙ is_built_there i slot pairs p valid good.0 good.1
    ∙ sym (ap (λ (x : Phase). is_built (phase_of i.spaces slot pairs x)) works)

pub not_built : (i : Image) (slot : ℕ) (pairs : List (ℕ × ℕ)) (phase : Phase) → ((p : Position) → phase ≡ phases.Works p → ⊥)
    → false ≡ is_built (phase_of i.spaces slot pairs phase)
not_built i slot pairs (phases.Works p) none = absurd (none p refl)
not_built i slot pairs phases.Makes none = refl
not_built i slot pairs (phases.Clears dropped more port) none = refl
not_built i slot pairs (phases.Over end) none = refl

-- where the space was made
pub made_well : (s t : State) (status : ℕ) → status ≡ OK → s ≡ cond (status == OK) s t
made_well s t status ok = sym (ap (λ (n : ℕ). cond (n == OK) s t) ok)

-- ---- what hasn't ended has a call to make

at_works : (slot : ℕ) (i : Image) (pairs : List (ℕ × ℕ)) (os : List Order) → IsAtCall (restore_of slot i pairs) (states.Works os)
at_works slot i pairs [] = (_, _, refl)
at_works slot i pairs (o ∷ os) = (_, _, refl)

at_clears : (slot : ℕ) (i : Image) (pairs : List (ℕ × ℕ)) (os : List Order) (more port : ℕ) → IsAtCall (restore_of slot i pairs) (states.Clears os more port)
at_clears slot i pairs [] more port = (_, _, refl)
at_clears slot i pairs (o ∷ os) more port = (_, _, refl)

pub at_call : (slot : ℕ) (i : Image) (pairs : List (ℕ × ℕ)) (phase : Phase) → ((end : RestoreEnd) → phase ≡ phases.Over end → ⊥) →
    IsAtCall (restore_of slot i pairs) (phase_of i.spaces slot pairs phase)
at_call slot i pairs phases.Makes over = (_, _, refl)
at_call slot i pairs (phases.Works p) over = at_works slot i pairs (rest i.spaces slot (bound_by pairs) p)
at_call slot i pairs (phases.Clears dropped more port) over = at_clears slot i pairs (drop dropped drops) more port
at_call slot i pairs (phases.Over end) over = absurd (over end refl)
