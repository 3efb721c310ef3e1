-- Apart: a reason that a move's changes are apart from stays.
use Rattle.std.proofs.Common.{◌≡◌, ◌≤◌, ◌&&◌, ℕ, Bool, true, false, is_some, List, [], ◌∷◌, Option, Some, None, Result, Ok, IsSome, refl}
use Rattle.std.proofs.Common.{sym, ap, subst, ◌∙◌}
use Rattle.std.proofs.lemmas.Bool.{or_parts}
use Rattle.fk_model.specs.declared.moves.Ask.{Ask}
use Rattle.fk_model.specs.declared.moves.Ask.TheVariants as asks
use Rattle.fk_model.specs.declared.names.Kind.{Kind}
use Rattle.fk_model.specs.declared.names.Kind.TheVariants as kinds
use Rattle.fk_model.specs.Holds.{holder_of}
use Rattle.fk_model.specs.Moves.{outcome, step, IsReady}
use Rattle.fk_model.specs.declared.thread.Turn.{Turn}
use Rattle.fk_model.specs.Objects.{Body, Thread, and_then, mutex_of, thread_of}
use Rattle.fk_model.specs.Objects.Mode.{Running}
use Rattle.fk_model.specs.Objects.Body.{Cond, Mapping, Mutex, Port, Portset, Reference, Region, Space, Thread_of}
use Rattle.fk_model.specs.Outcomes.{listed}
use Rattle.fk_model.specs.Places.{Path, Ptr, parent, same_path}
use Rattle.fk_model.specs.Places.Ptr.{At, Dead, Far, Null, Out, Outside}
use Rattle.fk_model.specs.Readers.{handled, is_kind, kind_at, led_to}
use Rattle.fk_model.specs.Searches.{depth, thread_at}
use Rattle.fk_model.specs.Talks.{other_side}
use Rattle.fk_model.specs.Valid.{kind_there, IsValid}
use Rattle.fk_model.specs.World.{World, Change, apply}
use Rattle.fk_model.specs.World.Change.{Alter, DropPage, Kill, Make, MakeSpace, Move, PutPage}
use Rattle.fk_model.proofs.walks.PlaceLaws.{same_path_eq}
use Rattle.fk_store.specs.Store.Paths.{place}
use Rattle.laws_moves.specs.Machine.Frame.{name_body, names_body}
use Rattle.laws_waits.specs.Calm.{AreCalm, IsApart}
use Rattle.laws_waits.specs.Complete.{is_barred}
use Rattle.laws_waits.specs.Stuck.{awaits_on, AreUntouched, HasRoom, IsStuck, IsUntouched, Reason}
use Rattle.laws_waits.specs.Stuck.Reason.{Barred, Beneath, Connecting, Ending, Holding, Lacking, Locking, Passing, Receiving, Resting, Sending, Sleeping}
use Rattle.laws_waits.specs.Stuck.Reason.{Waiting, WaitingOut}
use Rattle.laws_waits.specs.Touching.{is_pointing, remakes, repoints}
use Rattle.laws_waits.proofs.Calm.{calm_touches_nobody_lem}
use Rattle.laws_waits.proofs.Stays.{moves_leave_stuck_lem, stuck_stays_lem}
use Rattle.laws_waits.proofs.Unready.{stuck_is_unready_lem}
use Rattle.fk_turns.specs.declared.whys.whys.Why.{Why}
use Rattle.fk_turns.specs.declared.whys.whys.Why.TheVariants as whys
use Rattle.fk_turns.specs.Whys.Staying.{AreMild, IsMild, ReasonsStay}
use Rattle.fk_turns.specs.Whys.Whys.{is_loud_reason, IsAt, IsOwn, IsReadAt, IsStill, IsWhy}

-- ---- what a mild change leaves

-- what stands somewhere isn't made anew
unmade : (w : World) (c : Change) (q : Path) → IsMild w c → is_some (w.body q) ≡ true → remakes c q ≡ false
unmade w (Alter x edit) q mild there = refl
unmade w (Make x body) q mild there = apart (same_path q x) refl
  where
    apart : (b : Bool) → same_path q x ≡ b → same_path q x ≡ false
    apart true e = let off : true ≡ false = sym there ∙ ap (λ (y : Path). is_some (w.body y)) (same_path_eq q x e) ∙ mild in absurd (cc)
    apart false e = e
unmade w (MakeSpace x holder) q mild there = apart (same_path q x) refl
  where
    apart : (b : Bool) → same_path q x ≡ b → same_path q x ≡ false
    apart true e = let off : true ≡ false = sym there ∙ ap (λ (y : Path). is_some (w.body y)) (same_path_eq q x e) ∙ mild in absurd (cc)
    apart false e = e
unmade w (Kill x) q mild there = absurd mild
unmade w (Move x slot) q mild there = absurd mild
unmade w (PutPage space page words) q mild there = refl
unmade w (DropPage space page) q mild there = refl

off_also : (a b : Bool) → a ≡ false → (a && b) ≡ false
off_also true b off = absurd (cc)
off_also false b off = refl

-- a handle that isn't named isn't set
unpointed : (w : World) (c : Change) (q : Path) → names_body w c q ≡ false → repoints w c q ≡ false
unpointed w (Alter x edit) q off = off_also (same_path q x) (is_pointing edit) off
unpointed w (Make x body) q off = off
unpointed w (MakeSpace x holder) q off = off
unpointed w (Kill x) q off = off
unpointed w (Move x slot) q off = off
unpointed w (PutPage space page words) q off = refl
unpointed w (DropPage space page) q off = refl

-- ---- what is there

kind_is_there : (w : World) (q : Path) (kind : Kind) → kind_there w q ≡ Some kind → is_some (w.body q) ≡ true
unfolding kind_there
kind_is_there w q kind is = by (w.body q) refl is
  where
    by : (o : Option Body) → w.body q ≡ o → kind_there w q ≡ Some kind → is_some (w.body q) ≡ true
    by None e is = let off = rw e at is in absurd (cc)
    by (Some b) e is = rw e refl

port_led : (w : World) (to : Ptr) (port : Path) → led_to w kinds.Port to ≡ Ok (At port) → is_some (w.body port) ≡ true
port_led w Null port is = absurd (cc)
port_led w Dead port is = absurd (cc)
port_led w (At x) port is = by (w.body x) refl is
  where
    path_or : Result Ptr ℕ → Path
    path_or (Ok (At y)) = y
    path_or other = []

    by : (o : Option Body) → w.body x ≡ o → led_to w kinds.Port (At x) ≡ Ok (At port) → is_some (w.body port) ≡ true
    by None e here = let off = rw e at here in absurd (cc)
    by (Some b) e here = of (is_kind kinds.Port (kind_at w (At x))) refl here
      where
        of : (t : Bool) → is_kind kinds.Port (kind_at w (At x)) ≡ t → led_to w kinds.Port (At x) ≡ Ok (At port) → is_some (w.body port) ≡ true
        of true f h = let same : x ≡ port = ap path_or (rw f at h) in ap (λ (y : Path). is_some (w.body y)) (sym same) ∙ ap is_some e
        of false f h = let off = rw f at h in absurd (cc)
port_led w (Out slot) port is = absurd (cc)
port_led w Outside port is = absurd (cc)
port_led w Far port is = absurd (cc)

-- what a handle of a port says: its port is there, it itself is there, and it is no thread
record IsHandle (w : World) (port : Path) (o : Option Body) : Type 0 where
  led : is_some (w.body port) ≡ true
  own : is_some o ≡ true
  lone : and_then thread_of o ≡ None

handle_is : (w : World) (z port : Path) (o : Option Body) → w.body z ≡ o → handled w kinds.Port z o ≡ Ok (At port) → IsHandle w port o
handle_is w z port None e is = absurd (cc)
handle_is w z port (Some (Reference to)) e is = record { led = port_led w to port is; own = refl; lone = refl }
handle_is w z port (Some (Port set served)) e is =
    record { led = ap (λ (y : Path). is_some (w.body y)) (sym (ap path_or is)) ∙ ap is_some e; own = refl; lone = refl }
  where
    path_or : Result Ptr ℕ → Path
    path_or (Ok (At y)) = y
    path_or other = []
handle_is w z port (Some (Mutex locked)) e is = absurd (cc)
handle_is w z port (Some Cond) e is = absurd (cc)
handle_is w z port (Some (Mapping window)) e is = absurd (cc)
handle_is w z port (Some (Region extent)) e is = absurd (cc)
handle_is w z port (Some Portset) e is = absurd (cc)
handle_is w z port (Some (Space birth holder)) e is = absurd (cc)
handle_is w z port (Some (Thread_of t)) e is = absurd (cc)

-- what has a holder, and a mutex, are there, and are no threads
held_is : (o : Option Body) → is_some (holder_of o) ≡ true → (is_some o ≡ true) × (and_then thread_of o ≡ None)
held_is None is = absurd (cc)
held_is (Some (Space birth holder)) is = (refl, refl)
held_is (Some (Mutex locked)) is = absurd (cc)
held_is (Some Cond) is = absurd (cc)
held_is (Some (Mapping window)) is = absurd (cc)
held_is (Some (Region extent)) is = absurd (cc)
held_is (Some (Port set served)) is = absurd (cc)
held_is (Some Portset) is = absurd (cc)
held_is (Some (Thread_of t)) is = absurd (cc)
held_is (Some (Reference to)) is = absurd (cc)

mutex_is : (o : Option Body) → and_then mutex_of o ≡ Some true → (is_some o ≡ true) × (and_then thread_of o ≡ None)
mutex_is None is = absurd (cc)
mutex_is (Some (Mutex locked)) is = (refl, refl)
mutex_is (Some (Space birth holder)) is = absurd (cc)
mutex_is (Some Cond) is = absurd (cc)
mutex_is (Some (Mapping window)) is = absurd (cc)
mutex_is (Some (Region extent)) is = absurd (cc)
mutex_is (Some (Port set served)) is = absurd (cc)
mutex_is (Some Portset) is = absurd (cc)
mutex_is (Some (Thread_of t)) is = absurd (cc)
mutex_is (Some (Reference to)) is = absurd (cc)

-- what a reason reads is there, and is no thread
key_is : (w : World) (x key : Path) (r : Reason) → IsStuck w x r → IsReadAt x key r → (is_some (w.body key) ≡ true) × (thread_at w key ≡ None)
key_is w x key (Beneath space) stuck read =
    subst (λ (y : Path). (is_some (w.body y) ≡ true) × (thread_at w y ≡ None)) (sym read) (held_is (w.body space) stuck.1)
key_is w x key (Locking mutex) stuck read =
    subst (λ (y : Path). (is_some (w.body y) ≡ true) × (thread_at w y ≡ None)) (sym read) (mutex_is (w.body (mutex ∷ parent x)) stuck.2)
key_is w x key (Connecting h port) stuck read =
    let handle = handle_is w (h ∷ parent x) port (w.body (h ∷ parent x)) refl stuck.3 in
    subst (λ (y : Path). (is_some (w.body y) ≡ true) × (thread_at w y ≡ None)) (sym read) (handle.own, handle.lone)
key_is w x key Resting stuck read = absurd read
key_is w x key (Sleeping cond mutex) stuck read = absurd read
key_is w x key (Receiving side into room reference far client) stuck read = absurd read
key_is w x key (Passing side reference client end) stuck read = absurd read
key_is w x key (Sending side address count far client end) stuck read = absurd read
key_is w x key (Lacking side address count far client y into room) stuck read = absurd read
key_is w x key (Ending faulter space) stuck read = absurd read
key_is w x key (Holding s y space) stuck read = absurd read
key_is w x key (Waiting set) stuck read = absurd read
key_is w x key (WaitingOut set) stuck read = absurd read
key_is w x key Barred stuck read = absurd read

pub key_there : (w : World) (x key : Path) (why : IsAt w x key) → IsSome (w.body key)
key_there w x key why = (key_is w x key why.reason why.stuck why.read).0

pub key_lone : (w : World) (x key : Path) (why : IsAt w x key) → thread_at w key ≡ None
key_lone w x key why = (key_is w x key why.reason why.stuck why.read).1

-- no move of such a thread is ready
pub why_unready : (w : World) (p : ℕ → Path) (x : Path) (why : Why) → IsValid w → w.next ≤ depth → IsWhy w p x why → (pick : Option Path) →
    IsReady w x pick asks.Run → ⊥
why_unready w p x whys.Still valid few is = stuck_is_unready_lem w x is.reason valid few is.stuck
why_unready w p x (whys.At key) valid few is = stuck_is_unready_lem w x is.reason valid few is.stuck
why_unready w p x whys.Loud valid few is = stuck_is_unready_lem w x is.reason valid few is.stuck
why_unready w p x whys.Barred valid few is = is

-- ---- one change

still_untouched : (w : World) (c : Change) (x : Path) (r : Reason) → IsStuck w x r → IsOwn r → IsMild w c → names_body w c x ≡ false → IsUntouched w c x r
still_untouched w c x Resting stuck own mild off = off
still_untouched w c x (Sleeping cond mutex) stuck own mild off = (
  off,
  unmade w c (cond ∷ parent x) mild (kind_is_there w (cond ∷ parent x) kinds.Cond stuck.3),
  unmade w c (mutex ∷ parent x) mild (kind_is_there w (mutex ∷ parent x) kinds.Mutex stuck.4),
)
still_untouched w c x other stuck own mild off = absurd own

at_untouched : (w : World) (c : Change) (x key : Path) (r : Reason) → IsStuck w x r → IsReadAt x key r → IsMild w c → names_body w c x ≡ false →
    names_body w c key ≡ false → IsUntouched w c x r
at_untouched w c x key (Beneath space) stuck read mild off other = subst (λ (y : Path). names_body w c y ≡ false) read other
at_untouched w c x key (Locking mutex) stuck read mild off other = (off, subst (λ (y : Path). names_body w c y ≡ false) read other)
at_untouched w c x key (Connecting h port) stuck read mild off other = (
  off,
  unpointed w c (h ∷ parent x) (subst (λ (y : Path). names_body w c y ≡ false) read other),
  unmade w c port mild (handle_is w (h ∷ parent x) port (w.body (h ∷ parent x)) refl stuck.3).led,
)
at_untouched w c x key other stuck read mild off apart = absurd read

-- a reason stays after a change that is mild and apart from it
pub still_after : (w : World) (c : Change) (x : Path) → IsStill w x → IsMild w c → names_body w c x ≡ false → IsStill (apply c w) x
still_after w c x why mild off = record {
  reason = why.reason;
  stuck = stuck_stays_lem w c x why.reason why.stuck (still_untouched w c x why.reason why.stuck why.own mild off);
  own = why.own;
}

pub at_after : (w : World) (c : Change) (x key : Path) → IsAt w x key → IsMild w c → names_body w c x ≡ false → names_body w c key ≡ false →
    IsAt (apply c w) x key
at_after w c x key why mild off other = record {
  reason = why.reason;
  stuck = stuck_stays_lem w c x why.reason why.stuck (at_untouched w c x key why.reason why.stuck why.read mild off other);
  read = why.read;
}

-- ---- a move

still_apart : (w : World) (cs : List Change) (x : Path) (r : Reason) → IsStuck w x r → IsOwn r → AreMild w cs → name_body w cs x ≡ false →
    AreUntouched w cs x r
still_apart w [] x r stuck own mild off = tt
still_apart w (c ∷ cs) x r stuck own mild off =
    let both = or_parts (names_body w c x) (name_body (apply c w) cs x) off in
    let here = still_untouched w c x r stuck own mild.0 both.0 in
    (here, still_apart (apply c w) cs x r (stuck_stays_lem w c x r stuck here) own mild.1 both.1)

at_apart : (w : World) (cs : List Change) (x key : Path) (r : Reason) → IsStuck w x r → IsReadAt x key r → AreMild w cs → name_body w cs x ≡ false →
    name_body w cs key ≡ false → AreUntouched w cs x r
at_apart w [] x key r stuck read mild off other = tt
at_apart w (c ∷ cs) x key r stuck read mild off other =
    let mine = or_parts (names_body w c x) (name_body (apply c w) cs x) off in
    let its = or_parts (names_body w c key) (name_body (apply c w) cs key) other in
    let here = at_untouched w c x key r stuck read mild.0 mine.0 its.0 in
    (here, at_apart (apply c w) cs x key r (stuck_stays_lem w c x r stuck here) read mild.1 mine.1 its.1)

pub reasons_stay_lem : ReasonsStay
reasons_stay_lem w mover pick ask p x whys.Still why mild off = record {
  reason = why.reason;
  stuck = moves_leave_stuck_lem w x why.reason mover pick ask why.stuck
      (still_apart w (listed (outcome w mover pick ask)) x why.reason why.stuck why.own mild off);
  own = why.own;
}
reasons_stay_lem w mover pick ask p x (whys.At key) why mild off = record {
  reason = why.reason;
  stuck = moves_leave_stuck_lem w x why.reason mover pick ask why.stuck
      (at_apart w (listed (outcome w mover pick ask)) x (place p key) why.reason why.stuck why.read mild off.0 off.1);
  read = why.read;
}
reasons_stay_lem w mover pick ask p x whys.Loud why mild off = absurd off
reasons_stay_lem w mover pick ask p x whys.Barred why mild off = absurd off

-- ---- a calm move of a thread that runs

abbrev pub is_barred_why : Why → Bool
is_barred_why whys.Barred = true
is_barred_why whys.Still = false
is_barred_why other = false

pub own_named : (r : Reason) → IsOwn r → is_barred r ≡ false
own_named Resting own = refl
own_named (Sleeping c m) own = refl
own_named Barred own = absurd own
own_named r own = absurd own

pub read_named : (x key : Path) (r : Reason) → IsReadAt x key r → is_barred r ≡ false
read_named x key (Beneath space) read = refl
read_named x key (Locking m) read = refl
read_named x key (Connecting h port) read = refl
read_named x key Barred read = absurd read
read_named x key r read = absurd read

pub loud_named : (r : Reason) → is_loud_reason r ≡ true → is_barred r ≡ false
loud_named (Locking m) loud = absurd (cc)
loud_named Barred loud = absurd (cc)
loud_named Resting loud = refl
loud_named r loud = refl

-- a move that leaves a thread stuck for each named reason leaves why it is blocked
pub why_kept : (w v : World) (x : Path) → ((r : Reason) → IsStuck w x r → is_barred r ≡ false → IsStuck v x r) → (p : ℕ → Path) (why : Why) →
    is_barred_why why ≡ false → IsWhy w p x why → IsWhy v p x why
why_kept w v x after p whys.Still named is = record { reason = is.reason; stuck = after is.reason is.stuck (own_named is.reason is.own); own = is.own }
why_kept w v x after p (whys.At key) named is = record {
  reason = is.reason;
  stuck = after is.reason is.stuck (read_named x (place p key) is.reason is.read);
  read = is.read;
}
why_kept w v x after p whys.Loud named is = record { reason = is.reason; stuck = after is.reason is.stuck (loud_named is.reason is.loud); loud = is.loud }
why_kept w v x after p whys.Barred named is = absurd (cc)

none_some : {A X : Type 0} (a : A) → None ≡ Some a → X
none_some a is = absurd (cc)

module _ (w : World) (me : Path) (t : Thread) (g : List ℕ) (there : thread_at w me ≡ Some t) (mode : t.mode ≡ Running g) (x : Path)
    (other : same_path x me ≡ false) where
  -- who runs is at no Receive
  no_room : (side : Turn) (y : Path) (into room : ℕ) → HasRoom w side y into room → same_path y me ≡ false
  no_room side y into room has = by (same_path y me) refl
    where
      by : (b : Bool) → same_path y me ≡ b → same_path y me ≡ false
      by false e = e
      by true e =
          let here : thread_at w y ≡ Some t = ap (thread_at w) (same_path_eq y me e) ∙ there in
          none_some (into, room)
          (sym (ap (and_then (λ (u : Thread). awaits_on (other_side side) u.mode)) here ∙ ap (awaits_on (other_side side)) mode) ∙ has.0)

  apart_by : (r : Reason) → IsStuck w x r → is_barred r ≡ false → IsApart me x r
  apart_by (Lacking side address count far client y into room) stuck named = (other, no_room side y into room stuck.4)
  apart_by Barred stuck named = absurd (cc)
  apart_by Resting stuck named = other
  apart_by (Beneath space) stuck named = other
  apart_by (Locking m) stuck named = other
  apart_by (Sleeping c m) stuck named = other
  apart_by (Connecting h port) stuck named = other
  apart_by (Receiving side into room reference far client) stuck named = other
  apart_by (Passing side reference client end) stuck named = other
  apart_by (Sending side address count far client end) stuck named = other
  apart_by (Ending y space) stuck named = other
  apart_by (Holding s y space) stuck named = other
  apart_by (Waiting set) stuck named = other
  apart_by (WaitingOut set) stuck named = other

  stuck_after : (pick : Option Path) (ask : Ask) → AreCalm w me (listed (outcome w me pick ask)) → (r : Reason) → IsStuck w x r → is_barred r ≡ false →
      IsStuck (step w me pick ask).world x r
  stuck_after pick ask calm r stuck named =
      moves_leave_stuck_lem w x r me pick ask stuck (calm_touches_nobody_lem w me (listed (outcome w me pick ask)) x r calm stuck (apart_by r stuck named))

  -- leaves every reason of another
  pub why_calm : (pick : Option Path) (ask : Ask) → AreCalm w me (listed (outcome w me pick ask)) → (p : ℕ → Path) (why : Why) → is_barred_why why ≡ false →
      IsWhy w p x why → IsWhy (step w me pick ask).world p x why
  why_calm pick ask calm p whys.Still some is =
      record { reason = is.reason; stuck = stuck_after pick ask calm is.reason is.stuck (own_named is.reason is.own); own = is.own }
  why_calm pick ask calm p (whys.At key) some is =
      record { reason = is.reason; stuck = stuck_after pick ask calm is.reason is.stuck (read_named x (place p key) is.reason is.read); read = is.read }
  why_calm pick ask calm p whys.Loud some is =
      record { reason = is.reason; stuck = stuck_after pick ask calm is.reason is.stuck (loud_named is.reason is.loud); loud = is.loud }
  why_calm pick ask calm p whys.Barred some is = let off : true ≡ false = some in absurd (cc)
