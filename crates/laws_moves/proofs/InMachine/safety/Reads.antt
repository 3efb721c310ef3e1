-- What a reader that isn't refused says of the world.
use Rattle.std.proofs.Common.{◌≡◌, ℕ, ◌<◌, Bool, true, false, if◌then◌else◌, ◌||◌, eqb, leb, List, [], ◌∷◌, Option, Some, None, option_map, Result, Ok, Err}
use Rattle.std.proofs.Common.{refl, sym, ap, ◌∙◌, arith}
use Rattle.std.specs.List.{list_any}
use Rattle.std.proofs.lemmas.Bool.{leb-true, eqb-true, eq-eqb}
use Rattle.fk_model.specs.declared.limits.TheConstants.{SLOTS, OWN_SPACE}
use Rattle.fk_model.specs.declared.names.Kind.{Kind}
use Rattle.fk_model.specs.declared.names.Kind.TheVariants as kinds
use Rattle.fk_model.specs.declared.statuses.status.TheConstants.{BADHANDLE, WRONGKIND}
use Rattle.fk_model.specs.Places.{Path, Ptr}
use Rattle.fk_model.specs.Places.Ptr.{At, Out}
use Rattle.fk_model.specs.Objects.{Thread, Body, kind_of, same_kind, number_of_kind, thread_of, port_of, reference_of, and_then}
use Rattle.fk_model.specs.Objects.Body.{Port, Thread_of, Reference}
use Rattle.fk_model.specs.World.{World}
use Rattle.fk_model.specs.Searches.{has_residents, leaf, is_serving, client_at}
use Rattle.fk_model.specs.Outcomes.{Caller, path_of, last_slot, or_refuse}
use Rattle.fk_model.specs.Readers.{and_read, slot_for, seen_as, anything, object_in, kind_at, is_kind, led_to, handled, handle, path_at, space_argument}
use Rattle.fk_model.specs.Readers.{referred}
use Rattle.fk_model.specs.Valid.{IsConsistent, kind_there, is_one_of, leads_there, may_lead, HasService, services, IsRooted, IsPaged}
use Rattle.laws_moves.proofs.InMachine.safety.Safe.{IsAlone}

-- ---- what is known of the world in which a row is judged

-- what the walks of a valid, rooted world say
pub record WalkFacts (w : World) : Type 0 where
  -- who isn't found to serve serves nobody
  pub idle : (server : Path) → is_serving w server ≡ false → (q : Path) → services w server q ≡ 0
  -- a port without a native server's client has none
  pub no_service : (port : Path) → client_at w port ≡ None → (q : Path) → HasService w q (At port) → ⊥
  -- what has no residents has nothing beneath it, and so has the leaf of an object
  pub alone : (k : ℕ) (s : Path) → has_residents w (k ∷ s) ≡ false → IsAlone w (k ∷ s)
  pub leaf_alone : (k : ℕ) (s : Path) → IsAlone w (leaf w (k ∷ s))

-- all of it
pub record Facts (w : World) : Type 0 where
  pub valid : IsConsistent w
  pub rooted : IsRooted w
  pub paged : IsPaged w
  pub walks : WalkFacts w

-- the caller is a thread, in a space
pub record IsCaller (w : World) (c : Caller) : Type 0 where
  pub thread : kind_there w (path_of c) ≡ Some kinds.Thread
  pub space : kind_there w c.space ≡ Some kinds.Space

-- ---- kinds

pub kind-there : (w : World) (x : Path) (b : Body) → w.body x ≡ Some b → kind_there w x ≡ Some (kind_of b)
unfolding kind_there
kind-there w x b there = ap (option_map kind_of) there

-- a live body's kind is there
pub kind-port_of : (b : Body) (port : Option ℕ × Bool) → port_of b ≡ Some port → kind_of b ≡ kinds.Port
kind-port_of (Port set served) port seen = refl
kind-port_of b port seen = cc

pub body-thread_of : (b : Body) (t : Thread) → thread_of b ≡ Some t → b ≡ Thread_of t
body-thread_of (Thread_of old) t seen = cc
body-thread_of b t seen = cc

pub body-reference_of : (b : Body) (to : Ptr) → reference_of b ≡ Some to → b ≡ Reference to
body-reference_of (Reference old) to seen = cc
body-reference_of b to seen = cc

-- kinds with one number are alike in every list
pub same_kind-one_of : (a b : Kind) (wanted : List Kind) → same_kind a b ≡ true → list_any (same_kind b) wanted ≡ true → list_any (same_kind a) wanted ≡ true
same_kind-one_of a b wanted same among = ap (λ n. list_any (λ k. eqb n (number_of_kind k)) wanted) (eqb-true (number_of_kind a) (number_of_kind b) same) ∙ among

pub one_of-itself : (kind : Kind) (others : List Kind) → list_any (same_kind kind) (kind ∷ others) ≡ true
one_of-itself kinds.Mutex others = refl
one_of-itself kind others = refl

-- what leads to one kind leads to one of several among which it is
pub leads-among : (there : Path → Option Kind) (kind : Kind) (wanted : List Kind) (p : Ptr) →
    list_any (same_kind kind) wanted ≡ true → leads_there there (kind ∷ []) p ≡ true → may_lead there wanted p ≡ true
leads-among there kind wanted (At x) among leads = by (there x) leads
  where
    by : (o : Option Kind) → is_one_of (kind ∷ []) o ≡ true → is_one_of wanted o ≡ true
    by None h = cc
    by (Some found) h = same_kind-one_of found kind wanted (one (same_kind found kind) h) among
      where
        one : (t : Bool) → (t || false) ≡ true → t ≡ true
        one true h = refl
        one false h = cc
leads-among there kind wanted p among leads = refl

pub may-among : (there : Path → Option Kind) (kind : Kind) (wanted : List Kind) (p : Ptr) →
    list_any (same_kind kind) wanted ≡ true → may_lead there (kind ∷ []) p ≡ true → may_lead there wanted p ≡ true
may-among there kind wanted (At x) among may = leads-among there kind wanted (At x) among may
may-among there kind wanted p among may = refl

-- ---- a slot

pub record Found {A : Type 0} (w : World) (view : Body → Option A) (x : Path) (a : A) : Type 0 where
  pub body : Body
  pub there : w.body x ≡ Some body
  pub seen : view body ≡ Some a

pub slot_for-fits : (c : Caller) (k j : ℕ) → slot_for c k ≡ Ok j → k < SLOTS
slot_for-fits c k j read = by (leb k (last_slot c)) refl read
  where
    last : (porter : Bool) → last_slot (record c { is_porter = porter }) < SLOTS
    last true = omega arith
    last false = omega arith

    by : (t : Bool) → leb k (last_slot c) ≡ t → (if t then Ok k else Err BADHANDLE) ≡ Ok j → k < SLOTS
    by true e h = let below = leb-true k (last_slot c) e in let limit = last c.is_porter in omega arith
    by false e h = cc

or_refuse-some : {A : Type 0} (status : ℕ) (o : Option A) (a : A) → or_refuse status o ≡ Ok a → o ≡ Some a
or_refuse-some status None a h = cc
or_refuse-some status (Some b) a h = cc

seen-found : {A : Type 0} (w : World) (view : Body → Option A) (x : Path) (a : A) (o : Option Body) → w.body x ≡ o → seen_as view o ≡ Ok a → Found w view x a
seen-found w view x a None e h = cc
seen-found w view x a (Some b) e h = record { body = b; there = e; seen = or_refuse-some WRONGKIND (view b) a h }

pub object_in-found : {A : Type 0} (w : World) (c : Caller) (view : Body → Option A) (s : Path) (k : ℕ) (a : A) →
    object_in w c view s k ≡ Ok a → Found w view (k ∷ s) a
unfolding object_in
object_in-found w c view s k a read = by (leb k (last_slot c)) read
  where
    by : (t : Bool) → and_read (if t then Ok k else Err BADHANDLE) (λ k. seen_as view (w.body (k ∷ s))) ≡ Ok a → Found w view (k ∷ s) a
    by true h = seen-found w view (k ∷ s) a _ refl h
    by false h = cc

-- a reader that takes any object finds the body that stands there
pub object-there : (w : World) (c : Caller) (k : ℕ) (s : Path) (b : Body) → object_in w c anything s k ≡ Ok b → w.body (k ∷ s) ≡ Some b
object-there w c k s b read =
    let found = object_in-found w c anything s k b read in
    let same : found.body ≡ b = (let e : Some found.body ≡ Some b = found.seen in cc) in rw same at found.there

-- ---- pointers

at-leads : (w : World) (wanted : Kind) (x : Path) → is_kind wanted (kind_at w (At x)) ≡ true → leads_there (kind_there w) (wanted ∷ []) (At x) ≡ true
unfolding kind_there
at-leads w wanted x h = by (w.body x) h
  where
    by : (o : Option Body) → is_kind wanted (and_then (λ b. Some (kind_of b)) o) ≡ true → is_one_of (wanted ∷ []) (option_map kind_of o) ≡ true
    by None h = cc
    by (Some b) h = same_kind-one_of (kind_of b)
        wanted (wanted ∷ []) (eq-eqb _ _ (sym (eqb-true (number_of_kind wanted) (number_of_kind (kind_of b)) h))) (one_of-itself wanted [])

pub led_to-leads : (w : World) (wanted : Kind) (to p : Ptr) → led_to w wanted to ≡ Ok p → leads_there (kind_there w) (wanted ∷ []) p ≡ true
led_to-leads w wanted (At x) p h = by (is_kind wanted (kind_at w (At x))) refl h
  where
    by : (t : Bool) →
        is_kind wanted (kind_at w (At x)) ≡ t → (if t then Ok (At x) else Err WRONGKIND) ≡ Ok p → leads_there (kind_there w) (wanted ∷ []) p ≡ true
    by true e h = let same : p ≡ At x = cc in rw same (at-leads w wanted x e)
    by false e h = cc
led_to-leads w wanted (Out slot) p h = by (is_kind wanted (kind_at w (Out slot))) h
  where
    by : (t : Bool) → (if t then Ok (Out slot) else Err WRONGKIND) ≡ Ok p → leads_there (kind_there w) (wanted ∷ []) p ≡ true
    by true h = let same : p ≡ Out slot = cc in rw same refl
    by false h = cc
led_to-leads w wanted to p h = cc

handled-leads : (w : World) (wanted : Kind) (x : Path) (p : Ptr) (o : Option Body) →
    w.body x ≡ o → handled w wanted x o ≡ Ok p → leads_there (kind_there w) (wanted ∷ []) p ≡ true
unfolding kind_there
handled-leads w wanted x p None e h = cc
handled-leads w wanted x p (Some (Reference to)) e h = led_to-leads w wanted to p h
handled-leads w wanted x p (Some b) e h = by (same_kind wanted (kind_of b)) refl h
  where
    by : (t : Bool) → same_kind wanted (kind_of b) ≡ t → (if t then Ok (At x) else Err WRONGKIND) ≡ Ok p → leads_there (kind_there w) (wanted ∷ []) p ≡ true
    by true same h = let here : p ≡ At x = cc in rw (here, e) (same_kind-one_of (kind_of b)
        wanted (wanted ∷ []) (eq-eqb _ _ (sym (eqb-true (number_of_kind wanted) (number_of_kind (kind_of b)) same))) (one_of-itself wanted []))
    by false same h = cc

pub handle-leads : (w : World) (c : Caller) (wanted : Kind) (h : ℕ) (p : Ptr) → handle w c wanted h ≡ Ok p → leads_there (kind_there w) (wanted ∷ []) p ≡ true
unfolding handle
handle-leads w c wanted h p read = by (leb h (last_slot c)) read
  where
    by : (t : Bool) → and_read (if t then Ok h else Err BADHANDLE) (λ h. handled w wanted (h ∷ c.space) (w.body (h ∷ c.space))) ≡ Ok p →
        leads_there (kind_there w) (wanted ∷ []) p ≡ true
    by true found = handled-leads w wanted (h ∷ c.space) p _ refl found
    by false found = cc

pub referred-leads : (w : World) (c : Caller) (wanted : Kind) (k : ℕ) (p : Ptr) →
    referred w c wanted k ≡ Ok p → leads_there (kind_there w) (wanted ∷ []) p ≡ true
unfolding referred
referred-leads w c wanted k p read = by (object_in w c reference_of c.space k) read
  where
    by : (r : Result Ptr ℕ) → and_read r (led_to w wanted) ≡ Ok p → leads_there (kind_there w) (wanted ∷ []) p ≡ true
    by (Ok to) h = led_to-leads w wanted to p h
    by (Err status) h = cc

-- what leads to a space by path leads to one
space-there : (w : World) (x : Path) → leads_there (kind_there w) (kinds.Space ∷ []) (At x) ≡ true → kind_there w x ≡ Some kinds.Space
space-there w x leads = by (kind_there w x) leads
  where
    by : (o : Option Kind) → is_one_of (kinds.Space ∷ []) o ≡ true → o ≡ Some kinds.Space
    by None h = cc
    by (Some kinds.Space) h = refl
    by (Some kind) h = cc

pub place-space : (w : World) (c : Caller) (s : ℕ) (space : Path) → IsCaller w c → space_argument w c s ≡ Ok space → kind_there w space ≡ Some kinds.Space
unfolding space_argument
place-space w c s space caller read = by (eqb s OWN_SPACE) read
  where
    led : (p : Ptr) → leads_there (kind_there w) (kinds.Space ∷ []) p ≡ true → path_at p ≡ Ok space → kind_there w space ≡ Some kinds.Space
    led (At x) leads h = let same : space ≡ x = cc in rw same (space-there w x leads)
    led p leads h = cc

    of_handle : (r : Result Ptr ℕ) → handle w c kinds.Space s ≡ r → and_read r path_at ≡ Ok space → kind_there w space ≡ Some kinds.Space
    of_handle (Ok p) e h = led p (handle-leads w c kinds.Space s p e) h
    of_handle (Err status) e h = cc

    by : (t : Bool) → (if t then Ok c.space else and_read (handle w c kinds.Space s) path_at) ≡ Ok space → kind_there w space ≡ Some kinds.Space
    by true h = let same : space ≡ c.space = cc in rw same caller.space
    by false h = of_handle (handle w c kinds.Space s) refl h
