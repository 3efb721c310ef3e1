-- Woken: a signal leaves every reason but those of who makes it and of who is woken.
use Rattle.std.proofs.Common.{◌≡◌, ℕ, Bool, true, false, List, [], ◌∷◌, Option, Some, None, refl, ap, sym, subst, ◌∙◌, inl}
use Rattle.std.proofs.Common.{if◌then◌else◌, option_map}
use Rattle.fk_model.specs.declared.moves.Ask.{Ask}
use Rattle.fk_model.specs.declared.stage.Stage.{Stage}
use Rattle.fk_model.specs.declared.stage.Stage.TheVariants.{CondAsleep, CondSignal, MutexLock}
use Rattle.fk_model.specs.declared.thread.Turn.{Turn}
use Rattle.fk_model.specs.declared.thread.Turn.TheVariants as turns
use Rattle.fk_model.specs.Moves.{outcome, step}
use Rattle.fk_model.specs.Objects.{Body, Thread, and_then, thread_of}
use Rattle.fk_model.specs.Objects.Body.{Thread_of}
use Rattle.fk_model.specs.Objects.Mode.{Calling}
use Rattle.fk_model.specs.Outcomes.{listed}
use Rattle.fk_model.specs.Places.{Path, same_path}
use Rattle.fk_model.specs.Searches.{thread_at}
use Rattle.fk_model.specs.Talks.{other_side}
use Rattle.fk_model.specs.World.{World, Change, apply, edited}
use Rattle.fk_model.specs.World.Change.{Alter}
use Rattle.fk_model.specs.World.Edit.{Finish, Replace}
use Rattle.fk_model.proofs.walks.PlaceLaws.{same_path_eq}
use Rattle.fk_store.specs.Store.Paths.{place}
use Rattle.fk_turns.specs.declared.whys.whys.Why.{Why}
use Rattle.fk_turns.specs.declared.whys.whys.Why.TheVariants as whys
use Rattle.fk_turns.specs.Whys.Whys.{IsWhy}
use Rattle.fk_turns.proofs.InWhys.Apart.{loud_named, own_named, read_named}
use Rattle.laws_waits.specs.Calm.{AreApartFrom, AreMild}
use Rattle.laws_waits.specs.Complete.{is_barred}
use Rattle.laws_waits.specs.Stuck.{awaits_on, AreUntouched, HasRoom, Reason, IsStuck}
use Rattle.laws_waits.specs.Stuck.Reason.{Barred, Beneath, Connecting, Ending, Holding, Lacking, Locking, Passing, Receiving, Resting, Sending, Sleeping, Waiting}
use Rattle.laws_waits.specs.Stuck.Reason.{WaitingOut}
use Rattle.laws_waits.proofs.Mild.{mild_changes_touch_nobody_lem}
use Rattle.laws_waits.proofs.Stays.{moves_leave_stuck_lem}

none_some : {A X : Type 0} (a : A) → None ≡ Some a → X
none_some a is = absurd (cc)

body_of : (o : Option Body) (t : Thread) → and_then thread_of o ≡ Some t → o ≡ Some (Thread_of t)
body_of (Some (Thread_of u)) t is = cc
body_of None t is = cc
body_of (Some b) t is = cc

-- who is at a Receive isn't a thread at another stage
room_not : (w : World) (z : Path) (t : Thread) (todo : List Stage) (rest : List ℕ) (side : Turn) → thread_at w z ≡ Some t → t.mode ≡ Calling todo rest →
    awaits_on (other_side side) (Calling todo rest) ≡ None → (y : Path) (into room : ℕ) → HasRoom w side y into room → same_path y z ≡ false
room_not w z t todo rest side there mode none y into room has = by (same_path y z) refl
  where
    by : (b : Bool) → same_path y z ≡ b → same_path y z ≡ false
    by false e = e
    by true e =
        let thread : thread_at w y ≡ Some t = ap (thread_at w) (same_path_eq y z e) ∙ there in
        none_some (into, room)
        (sym (ap (and_then (λ (v : Thread). awaits_on (other_side side) v.mode)) thread ∙ ap (awaits_on (other_side side)) mode ∙ none) ∙ has.0)

module _ (w : World) (me x : Path) (cond c mutex : ℕ) (t u : Thread) (rest rest_x : List ℕ) (there : thread_at w me ≡ Some t)
    (mode : t.mode ≡ Calling (CondSignal cond ∷ []) rest) (there_x : thread_at w x ≡ Some u) (mode_x : u.mode ≡ Calling (CondAsleep c mutex ∷ []) rest_x)
    (far : same_path me x ≡ false) where
  abbrev cs : List Change
  cs = Alter x (Replace (MutexLock mutex)) ∷ Alter me (Finish []) ∷ []

  -- the signaller is there once the sleeper is awake
  there_still : thread_at (apply (Alter x (Replace (MutexLock mutex))) w) me ≡ Some t
  unfolding apply edited
  there_still = rw (far, body_of (w.body me) t there) refl

  mild : AreMild w (x ∷ me ∷ []) cs
  mild = (
    inl (record {
      edit = Replace (MutexLock mutex);
      thread = u;
      is = refl;
      there = there_x;
      quiet = rw mode_x refl;
      plain = (refl, refl, refl);
    }),
    (inl (record { edit = Finish []; thread = t; is = refl; there = there_still; quiet = rw mode refl; plain = (refl, refl, refl) }), tt),
  )

  no_receive : (side : Turn) → awaits_on side (Calling (CondSignal cond ∷ []) rest) ≡ None
  no_receive turns.Client = refl
  no_receive turns.Server = refl

  no_receive_x : (side : Turn) → awaits_on side (Calling (CondAsleep c mutex ∷ []) rest_x) ≡ None
  no_receive_x turns.Client = refl
  no_receive_x turns.Server = refl

  module _ (z : Path) (off : same_path z me ≡ false) (off_x : same_path z x ≡ false) where
    apart : (r : Reason) → IsStuck w z r → is_barred r ≡ false → AreApartFrom (x ∷ me ∷ []) cs z r
    apart (Lacking side address count far client y into room) stuck named = (
      (off_x, room_not w x u (CondAsleep c mutex ∷ []) rest_x side there_x mode_x (no_receive_x (other_side side)) y into room stuck.4),
      ((off, room_not w me t (CondSignal cond ∷ []) rest side there mode (no_receive (other_side side)) y into room stuck.4), tt),
    )
    apart Barred stuck named = absurd (cc)
    apart (Locking m) stuck named = (off_x, (off, tt))
    apart Resting stuck named = (off_x, (off, tt))
    apart (Beneath space) stuck named = (off_x, (off, tt))
    apart (Sleeping d m) stuck named = (off_x, (off, tt))
    apart (Connecting h port) stuck named = (off_x, (off, tt))
    apart (Receiving side into room reference far client) stuck named = (off_x, (off, tt))
    apart (Passing side reference client end) stuck named = (off_x, (off, tt))
    apart (Sending side address count far client end) stuck named = (off_x, (off, tt))
    apart (Ending y space) stuck named = (off_x, (off, tt))
    apart (Holding s y space) stuck named = (off_x, (off, tt))
    apart (Waiting set) stuck named = (off_x, (off, tt))
    apart (WaitingOut set) stuck named = (off_x, (off, tt))

    module _ (pick : Option Path) (ask : Ask) (row : listed (outcome w me pick ask) ≡ cs) where
      stuck_after : (r : Reason) → IsStuck w z r → is_barred r ≡ false → IsStuck (step w me pick ask).world z r
      stuck_after r stuck named =
          moves_leave_stuck_lem w z r me pick ask stuck
          (subst (λ (l : List Change). AreUntouched w l z r) (sym row)
          (mild_changes_touch_nobody_lem w (x ∷ me ∷ []) cs z r mild stuck (apart r stuck named)))

      pub why_beside : (p : ℕ → Path) (why : Why) → (why ≡ whys.Barred → ⊥) → IsWhy w p z why → IsWhy (step w me pick ask).world p z why
      why_beside p whys.Still some is = record {
        reason = is.reason;
        stuck = stuck_after is.reason is.stuck (own_named is.reason is.own);
        own = is.own;
      }
      why_beside p (whys.At key) some is = record {
        reason = is.reason;
        stuck = stuck_after is.reason is.stuck (read_named z (place p key) is.reason is.read);
        read = is.read;
      }
      why_beside p whys.Loud some is = record {
        reason = is.reason;
        stuck = stuck_after is.reason is.stuck (loud_named is.reason is.loud);
        loud = is.loud;
      }
      why_beside p whys.Barred some is = absurd (some refl)
