-- Mildly: a mutex that is set, and what becomes of who sets it, leave every reason but those that look at the mutex.
use Rattle.std.proofs.Common.{◌≡◌, ◌⊎◌, ℕ, Bool, true, false, is_some, List, [], ◌∷◌, Option, Some, None, refl, ap, sym, subst, ◌∙◌, inl, inr}
use Rattle.std.proofs.Common.{if◌then◌else◌, option_map}
use Rattle.fk_calls.specs.Calls.Goings.{is_lock}
use Rattle.fk_model.specs.declared.moves.Ask.{Ask}
use Rattle.fk_model.specs.declared.names.Who.{Who}
use Rattle.fk_model.specs.declared.stage.Stage.{Stage}
use Rattle.fk_model.specs.declared.stage.Stage.TheVariants.{CondWait, MutexLock, MutexTrylock, MutexUnlock}
use Rattle.fk_model.specs.declared.thread.Turn.{Turn}
use Rattle.fk_model.specs.declared.thread.Turn.TheVariants as turns
use Rattle.fk_model.specs.Moves.{outcome, step}
use Rattle.fk_model.specs.Objects.{Body, Thread, and_then, mutex_of, thread_of}
use Rattle.fk_model.specs.Objects.Body.{Thread_of}
use Rattle.fk_model.specs.Objects.Mode.{Calling}
use Rattle.fk_model.specs.Outcomes.{listed}
use Rattle.fk_model.specs.Places.{Path, parent, same_path}
use Rattle.fk_model.specs.Searches.{thread_at}
use Rattle.fk_model.specs.Talks.{other_side}
use Rattle.fk_model.specs.World.{World, Change, Edit, apply, edited}
use Rattle.fk_model.specs.World.Change.{Alter}
use Rattle.fk_model.specs.World.Edit.{SetLocked}
use Rattle.fk_model.proofs.walks.PlaceLaws.{same_path_eq}
use Rattle.fk_store.specs.Store.Paths.{place}
use Rattle.fk_turns.specs.declared.whys.whys.Why.{Why}
use Rattle.fk_turns.specs.declared.whys.whys.Why.TheVariants as whys
use Rattle.fk_turns.specs.Whys.Whys.{is_loud_reason, IsOwn, IsReadAt, IsWhy}
use Rattle.fk_turns.proofs.InWhys.Apart.{loud_named, own_named, read_named}
use Rattle.laws_waits.specs.Calm.{AreApartFrom, AreMild, IsApart, IsApartFrom}
use Rattle.laws_waits.specs.Complete.{is_barred}
use Rattle.laws_waits.specs.Touching.{is_loud, IsThreadEdit}
use Rattle.laws_waits.specs.Stuck.{awaits_on, AreUntouched, HasRoom, Reason, IsStuck}
use Rattle.laws_waits.specs.Stuck.Reason.{Barred, Beneath, Connecting, Ending, Holding, Lacking, Locking, Passing, Receiving, Resting, Sending, Sleeping, Waiting}
use Rattle.laws_waits.specs.Stuck.Reason.{WaitingOut}
use Rattle.laws_waits.proofs.Mild.{mild_changes_touch_nobody_lem}
use Rattle.laws_waits.proofs.Stays.{moves_leave_stuck_lem}

body_of : (o : Option Body) (t : Thread) → and_then thread_of o ≡ Some t → o ≡ Some (Thread_of t)
body_of (Some (Thread_of u)) t is = cc
body_of None t is = cc
body_of (Some b) t is = cc

-- where a mutex is no thread is
pub mutex_lone : (o : Option Body) (was : Bool) (t : Thread) → and_then mutex_of o ≡ Some was → and_then thread_of o ≡ Some t → ⊥
mutex_lone (Some (Thread_of u)) was t mutex thread = absurd (cc)
mutex_lone None was t mutex thread = absurd (cc)
mutex_lone (Some b) was t mutex thread = absurd (cc)

none_some : {A X : Type 0} (a : A) → None ≡ Some a → X
none_some a is = absurd (cc)

-- a reason doesn't look at the mutex
abbrev IsApartOf : Path → Path → Reason → Type 0
IsApartOf at x r = (m : ℕ) → r ≡ Locking m → same_path (m ∷ parent x) at ≡ false

-- why a thread can't move isn't the mutex, where that was locked
abbrev pub IsSparedAt : (ℕ → Path) → Path → Bool → Why → Type 0
IsSparedAt p at was whys.Still = Unit {0}
IsSparedAt p at was (whys.At key) = (was ≡ false) ⊎ (same_path (place p key) at ≡ false)
IsSparedAt p at was whys.Loud = Unit {0}
IsSparedAt p at was whys.Barred = ⊥

module _ (w : World) (me at : Path) (locked was : Bool) (t : Thread) (stage : Stage) (rest : List ℕ) (there : thread_at w me ≡ Some t)
    (mode : t.mode ≡ Calling (stage ∷ []) rest) (lock : is_lock stage ≡ true) (mutex : and_then mutex_of (w.body at) ≡ Some was) (own : Edit) (quiet : is_loud own t ≡ false)
    (plain : IsThreadEdit own) where
  abbrev cs : List Change
  cs = Alter at (SetLocked locked) ∷ Alter me own ∷ []

  -- the thread is there once the mutex is set
  there_still : thread_at (apply (Alter at (SetLocked locked)) w) me ≡ Some t
  unfolding apply edited
  there_still = ap (and_then thread_of) (by (same_path me at))
    where
      is : w.body me ≡ Some (Thread_of t)
      is = body_of (w.body me) t there

      by : (b : Bool) → (if b then option_map (edited (SetLocked locked)) (w.body me) else w.body me) ≡ Some (Thread_of t)
      by true = ap (option_map (edited (SetLocked locked))) is
      by false = is

  mild : AreMild w (at ∷ me ∷ []) cs
  mild = (
    inr (record { locked = locked; is = refl; there = ap is_some mutex }),
    (inl (record { edit = own; thread = t; is = refl; there = there_still; quiet = quiet; plain = plain }), tt),
  )

  -- a thread isn't the mutex
  no_mutex : (y : Path) (v : Thread) → thread_at w y ≡ Some v → same_path y at ≡ false
  no_mutex y v is = by (same_path y at) refl
    where
      by : (b : Bool) → same_path y at ≡ b → same_path y at ≡ false
      by false e = e
      by true e = absurd (mutex_lone (w.body at) was v mutex (ap (thread_at w) (sym (same_path_eq y at e)) ∙ is))

  -- who is at a Receive isn't the mutex, nor the thread that sets it
  room_no_mutex : (side : Turn) (y : Path) (into room : ℕ) → HasRoom w side y into room → same_path y at ≡ false
  room_no_mutex side y into room has = by (thread_at w y) refl has.0
    where
      by : (o : Option Thread) → thread_at w y ≡ o → and_then (λ (t : Thread). awaits_on (other_side side) t.mode) o ≡ Some (into, room) →
          same_path y at ≡ false
      by (Some v) e h = no_mutex y v e
      by None e h = none_some (into, room) h

  no_receive : (side : Turn) (stage : Stage) → is_lock stage ≡ true → awaits_on side (Calling (stage ∷ []) rest) ≡ None
  no_receive turns.Client (MutexLock m) is = refl
  no_receive turns.Client (MutexTrylock m) is = refl
  no_receive turns.Client (MutexUnlock m) is = refl
  no_receive turns.Client (CondWait c m) is = refl
  no_receive turns.Server (MutexLock m) is = refl
  no_receive turns.Server (MutexTrylock m) is = refl
  no_receive turns.Server (MutexUnlock m) is = refl
  no_receive turns.Server (CondWait c m) is = refl
  no_receive side other is = absurd (cc)

  room_no_mover : (side : Turn) (y : Path) (into room : ℕ) → HasRoom w side y into room → same_path y me ≡ false
  room_no_mover side y into room has = by (same_path y me) refl
    where
      by : (b : Bool) → same_path y me ≡ b → same_path y me ≡ false
      by false e = e
      by true e =
          let thread : thread_at w y ≡ Some t = ap (thread_at w) (same_path_eq y me e) ∙ there in
          none_some (into, room)
          (sym (ap (and_then (λ (v : Thread). awaits_on (other_side side) v.mode)) thread ∙ ap (awaits_on (other_side side)) mode
          ∙ no_receive (other_side side) stage lock) ∙ has.0)

  module _ (x : Path) (u : Thread) (here : thread_at w x ≡ Some u) (other : same_path x me ≡ false) where
    -- who sets the mutex is no mutex
    no_lock : (m : ℕ) → IsStuck w x (Locking m) → same_path (m ∷ parent x) me ≡ false
    no_lock m stuck = by (same_path (m ∷ parent x) me) refl
      where
        by : (b : Bool) → same_path (m ∷ parent x) me ≡ b → same_path (m ∷ parent x) me ≡ false
        by false e = e
        by true e = absurd (mutex_lone (w.body (m ∷ parent x)) true t stuck.2 (ap (thread_at w) (same_path_eq (m ∷ parent x) me e) ∙ there))

    own_from : (r : Reason) → IsStuck w x r → IsApart me x r → IsApartFrom me (Alter me own) x r
    own_from r stuck apart = by own r stuck apart
      where
        by : (e : Edit) (r : Reason) → IsStuck w x r → IsApart me x r → IsApartFrom me (Alter me e) x r
        by (SetLocked locked) (Locking m) stuck apart = (apart, no_lock m stuck)
        by e r stuck apart = apart

    apart : (r : Reason) → IsStuck w x r → is_barred r ≡ false → IsApartOf at x r → AreApartFrom (at ∷ me ∷ []) cs x r
    apart (Locking m) stuck named spared = ((no_mutex x u here, spared m refl), (own_from (Locking m) stuck other, tt))
    apart (Lacking side address count far client y into room) stuck named spared = (
      (no_mutex x u here, room_no_mutex side y into room stuck.4),
      (own_from (Lacking side address count far client y into room) stuck (other, room_no_mover side y into room stuck.4), tt),
    )
    apart Barred stuck named spared = absurd (cc)
    apart Resting stuck named spared = (no_mutex x u here, (own_from Resting stuck other, tt))
    apart (Beneath space) stuck named spared = (no_mutex x u here, (own_from (Beneath space) stuck other, tt))
    apart (Sleeping c m) stuck named spared = (no_mutex x u here, (own_from (Sleeping c m) stuck other, tt))
    apart (Connecting h port) stuck named spared = (no_mutex x u here, (own_from (Connecting h port) stuck other, tt))
    apart (Receiving side into room reference far client) stuck named spared =
        (no_mutex x u here, (own_from (Receiving side into room reference far client) stuck other, tt))
    apart (Passing side reference client end) stuck named spared = (no_mutex x u here, (own_from (Passing side reference client end) stuck other, tt))
    apart (Sending side address count far client end) stuck named spared =
        (no_mutex x u here, (own_from (Sending side address count far client end) stuck other, tt))
    apart (Ending y space) stuck named spared = (no_mutex x u here, (own_from (Ending y space) stuck other, tt))
    apart (Holding s y space) stuck named spared = (no_mutex x u here, (own_from (Holding s y space) stuck other, tt))
    apart (Waiting set) stuck named spared = (no_mutex x u here, (own_from (Waiting set) stuck other, tt))
    apart (WaitingOut set) stuck named spared = (no_mutex x u here, (own_from (WaitingOut set) stuck other, tt))

    module _ (pick : Option Path) (ask : Ask) (row : listed (outcome w me pick ask) ≡ cs) where
      stuck_after : (r : Reason) → IsStuck w x r → is_barred r ≡ false → IsApartOf at x r → IsStuck (step w me pick ask).world x r
      stuck_after r stuck named spared =
          moves_leave_stuck_lem w x r me pick ask stuck
          (subst (λ (l : List Change). AreUntouched w l x r) (sym row)
          (mild_changes_touch_nobody_lem w (at ∷ me ∷ []) cs x r mild stuck (apart r stuck named spared)))

      -- who locks a mutex that isn't this one, where this one wasn't locked
      unlocked_apart : was ≡ false → (r : Reason) → IsStuck w x r → IsApartOf at x r
      unlocked_apart free r stuck m is = by (same_path (m ∷ parent x) at) refl
        where
          by : (b : Bool) → same_path (m ∷ parent x) at ≡ b → same_path (m ∷ parent x) at ≡ false
          by false e = e
          by true e =
              let locks : IsStuck w x (Locking m) = subst (IsStuck w x) is stuck in
              let off : Some true ≡ Some false =
              sym locks.2 ∙ ap (λ (y : Path). and_then mutex_of (w.body y)) (same_path_eq (m ∷ parent x) at e) ∙ mutex ∙ ap (λ (b : Bool). Some b) free in
              absurd (cc)

      key_apart : (p : ℕ → Path) (key : Who) (r : Reason) → IsStuck w x r → IsReadAt x (place p key) r →
          (was ≡ false) ⊎ (same_path (place p key) at ≡ false) → IsApartOf at x r
      key_apart p key r stuck read (inl free) = unlocked_apart free r stuck
      key_apart p key r stuck read (inr far) = λ m is.
          subst (λ (y : Path). same_path y at ≡ false) (subst (IsReadAt x (place p key)) is read) far

      own_apart : (r : Reason) → IsOwn r → IsApartOf at x r
      own_apart r own m is = absurd (subst IsOwn is own)

      loud_apart : (r : Reason) → is_loud_reason r ≡ true → IsApartOf at x r
      loud_apart r loud m is = let off : false ≡ true = ap is_loud_reason (sym is) ∙ loud in absurd (cc)

      pub why_mild : (p : ℕ → Path) (why : Why) → IsSparedAt p at was why → IsWhy w p x why → IsWhy (step w me pick ask).world p x why
      why_mild p whys.Still spared is = record {
        reason = is.reason;
        stuck = stuck_after is.reason is.stuck (own_named is.reason is.own) (own_apart is.reason is.own);
        own = is.own;
      }
      why_mild p (whys.At key) spared is = record {
        reason = is.reason;
        stuck = stuck_after is.reason is.stuck (read_named x (place p key) is.reason is.read) (key_apart p key is.reason is.stuck is.read spared);
        read = is.read;
      }
      why_mild p whys.Loud spared is = record {
        reason = is.reason;
        stuck = stuck_after is.reason is.stuck (loud_named is.reason is.loud) (loud_apart is.reason is.loud);
        loud = is.loud;
      }
      why_mild p whys.Barred spared is = absurd spared
