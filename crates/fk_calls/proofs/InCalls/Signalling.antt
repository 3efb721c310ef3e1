-- Signalling: a thread that signals at a condition wakes one who sleeps there, and runs.
use Rattle.std.proofs.Common.{◌≡◌, ◌≤◌, ◌&&◌, ◌==◌, ℕ, Bool, true, false, not, [], ◌∷◌, Option, Some, None, Ok, option_map, is_none}
use Rattle.std.proofs.Common.{if◌then◌else◌, refl, sym, ap, subst, ◌∙◌, IfSome}
use Rattle.std.proofs.lemmas.Bool.{and_parts}
use Rattle.fk_model.specs.declared.moves.Ask.TheVariants as asks
use Rattle.fk_model.specs.declared.moves.Said.TheVariants as says
use Rattle.fk_model.specs.declared.names.Who.{Who}
use Rattle.fk_model.specs.declared.stage.Stage.{Stage}
use Rattle.fk_model.specs.declared.stage.Stage.TheVariants.{CondAsleep, CondSignal, MutexLock}
use Rattle.fk_model.specs.declared.thread.Mode.TheVariants as modes
use Rattle.fk_model.specs.declared.thread.Thread as threads_of
use Rattle.fk_model.specs.Calls.{todo_of}
use Rattle.fk_model.specs.Freezing.{are_unfrozen}
use Rattle.fk_model.specs.Holds.{decider, is_free, is_frozen, is_user}
use Rattle.fk_model.specs.LinkRows.{user_at}
use Rattle.fk_model.specs.Moves.{allowed_row, GoesAllowed}
use Rattle.fk_model.specs.Objects.{Body, Mode, Thread, holds}
use Rattle.fk_model.specs.Objects.Body.{Cond, Thread_of}
use Rattle.fk_model.specs.Objects.Mode.{Calling, Halted, Native, Running}
use Rattle.fk_model.specs.Outcomes.{Outcome, done, listed}
use Rattle.fk_model.specs.Outcomes as outcomes
use Rattle.fk_model.specs.Places.{Path, parent, same_path}
use Rattle.fk_model.specs.Readers.{object_in}
use Rattle.fk_model.specs.Searches.{depth, option_list, thread_at}
use Rattle.fk_model.specs.SyncRows.{asleep_on, cond_of, cond_signal}
use Rattle.fk_model.specs.Valid.{IsValid}
use Rattle.fk_model.specs.World.{World, Edit, apply, apply_all, edited}
use Rattle.fk_model.specs.World.Change.{Alter}
use Rattle.fk_model.specs.World.Edit.{Finish, Replace}
use Rattle.fk_model.proofs.walks.PlaceLaws.{same_path_eq, same_path_refl}
use Rattle.fk_changes.specs.Readers.Callers.{mapped}
use Rattle.fk_changes.specs.Readers.Readings.{found}
use Rattle.fk_changes.specs.Threads.Sleepers.{IsAsleep}
use Rattle.fk_changes.specs.declared.threads.answers.Answers.TheVariants as answers
use Rattle.fk_plans.specs.declared.plans.plan.Deed.TheVariants as deeds
use Rattle.fk_plans.specs.declared.plans.plan.Plan.TheVariants as plans
use Rattle.fk_plans.specs.declared.plans.plan.Verdict.{Verdict}
use Rattle.fk_plans.specs.declared.plans.plan.Verdict.TheVariants as verdicts
use Rattle.fk_plans.specs.Plans.Plans.{caller_by}
use Rattle.fk_store.specs.Store.Bodies.{thread_by}
use Rattle.fk_store.specs.Store.Contents.{Contents}
use Rattle.fk_store.specs.Store.Paths.{path, place}
use Rattle.fk_store.specs.Store.Threads.{is_free_at, todo_at, todo_of_mode, todo_of_thread}
use Rattle.fk_store.specs.Store.World.{world}
use Rattle.fk_calls.specs.declared.calls.judging.Judgement.{Judgement}
use Rattle.fk_calls.specs.Calls.Judgements.{IsJudged, IsReadyMove, IsStepTo}
use Rattle.fk_calls.specs.Calls.Runs.{is_under_way}
use Rattle.fk_calls.specs.Calls.Signals.{picking, HasWoken, IsSignalling}
use Rattle.fk_calls.proofs.InCalls.Judged.{quiet_judged, stage_judged, step_judged, user}
use Rattle.fk_calls.proofs.InCalls.Locking.{body_of_thread, named_alone}
use Rattle.fk_calls.proofs.InCalls.Touches.{touching}

-- ---- the row

signal_row : (w : World) (x y : Path) (cond mutex : ℕ) → object_in w (user_at x) cond_of (user_at x).space cond ≡ Ok Cond →
    same_path (parent y) (user_at x).space ≡ true → asleep_on cond (w.body y) ≡ Some mutex →
    allowed_row w (user_at x) (Some y) (CondSignal cond) ≡ done (user_at x) (Alter y (Replace (MutexLock mutex)) ∷ []) []
unfolding cond_signal
signal_row w x y cond mutex first same asleep = rw (first, same, asleep) refl

-- ---- who signals doesn't sleep

different : (w : World) (me x : Path) (cond mutex : ℕ) → todo_at w me ≡ CondSignal cond ∷ [] → IsAsleep w x mutex → same_path me x ≡ false
different w me x cond mutex alone asleep = by (same_path me x) refl
  where
    by : (b : Bool) → same_path me x ≡ b → same_path me x ≡ false
    by false e = e
    by true e =
        let same : CondSignal cond ∷ [] ≡ CondAsleep asleep.0 mutex ∷ [] = sym alone ∙ ap (todo_at w) (same_path_eq me x e) ∙ asleep.1 in
        absurd (cc)

-- ---- who runs then

-- what becomes of another leaves a thread
left_other : (w : World) (me x : Path) (e : Edit) (t : Thread) → same_path me x ≡ false → w.body me ≡ Some (Thread_of t) →
    (apply (Alter x e) w).body me ≡ Some (Thread_of t)
unfolding apply
left_other w me x e t off is = rw off is

runs_then : (w : World) (k : ℕ) (s x : Path) (e : Edit) (stage : Stage) → same_path (k ∷ s) x ≡ false → is_free_at w (k ∷ s) ≡ true →
    todo_at w (k ∷ s) ≡ stage ∷ [] → holds is_under_way (thread_at (apply (Alter (k ∷ s) (Finish [])) (apply (Alter x e) w)) (k ∷ s)) ≡ true
unfolding apply edited is_free_at todo_at
runs_then w k s x e stage off free alone = by (thread_at w (k ∷ s)) refl free alone
  where
    me : Path
    me = k ∷ s

    by_mode : (t : Thread) (mode : Mode) → t.mode ≡ mode → thread_at w me ≡ Some t → is_free w s t ≡ true → todo_of_mode mode ≡ stage ∷ [] →
        holds is_under_way (thread_at (apply (Alter me (Finish [])) (apply (Alter x e) w)) me) ≡ true
    by_mode t (Calling todo rest) is there free alone =
        let able = and_parts (not (is_frozen w s) && t.stops == 0 && is_none t.fault) (is_user t.mode) free in
        let sound = and_parts (not (is_frozen w s) && t.stops == 0) (is_none t.fault) able.0 in
        let awake = and_parts (not (is_frozen w s)) (t.stops == 0) sound.0 in
        let body = body_of_thread (w.body me) t there in
        rw (same_path_refl me, off, body, is, alone, awake.1, sound.1) refl
    by_mode t (Running g) is there free alone = absurd (cc)
    by_mode t (Halted g code) is there free alone = absurd (cc)
    by_mode t (Native g) is there free alone = absurd (cc)

    by : (o : Option Thread) → thread_at w me ≡ o → holds (is_free w s) o ≡ true → todo_of_thread o ≡ stage ∷ [] →
        holds is_under_way (thread_at (apply (Alter me (Finish [])) (apply (Alter x e) w)) me) ≡ true
    by None there free alone = absurd (cc)
    by (Some t) there free alone = by_mode t t.mode refl there free alone

-- ---- and who locks its mutex

different_from : (w : World) (me x : Path) (cond mutex : ℕ) → todo_at w me ≡ CondSignal cond ∷ [] → IsAsleep w x mutex → same_path x me ≡ false
different_from w me x cond mutex alone asleep = by (same_path x me) refl
  where
    by : (b : Bool) → same_path x me ≡ b → same_path x me ≡ false
    by false e = e
    by true e =
        let same : CondAsleep asleep.0 mutex ∷ [] ≡ CondSignal cond ∷ [] = sym asleep.1 ∙ ap (todo_at w) (same_path_eq x me e) ∙ alone in
        absurd (cc)

locks_then : (w : World) (me x : Path) (c mutex : ℕ) → same_path x me ≡ false → todo_at w x ≡ CondAsleep c mutex ∷ [] →
    todo_at (apply (Alter me (Finish [])) (apply (Alter x (Replace (MutexLock mutex))) w)) x ≡ MutexLock mutex ∷ []
unfolding apply edited todo_at
locks_then w me x c mutex off asleep = by (thread_at w x) refl asleep
  where
    by_mode : (t : Thread) (mode : Mode) → t.mode ≡ mode → thread_at w x ≡ Some t → todo_of_mode mode ≡ CondAsleep c mutex ∷ [] →
        todo_at (apply (Alter me (Finish [])) (apply (Alter x (Replace (MutexLock mutex))) w)) x ≡ MutexLock mutex ∷ []
    by_mode t (Calling todo rest) is there asleep =
        let body = body_of_thread (w.body x) t there in
        rw (off, same_path_refl x, body, is, asleep) refl
    by_mode t (Running g) is there asleep = absurd (cc)
    by_mode t (Halted g code) is there asleep = absurd (cc)
    by_mode t (Native g) is there asleep = absurd (cc)

    by : (o : Option Thread) → thread_at w x ≡ o → todo_of_thread o ≡ CondAsleep c mutex ∷ [] →
        todo_at (apply (Alter me (Finish [])) (apply (Alter x (Replace (MutexLock mutex))) w)) x ≡ MutexLock mutex ∷ []
    by None there asleep = absurd (cc)
    by (Some t) there asleep = by_mode t t.mode refl there asleep

-- ---- the move

abbrev pub SeesCond : Contents → Who → ℕ → Type 0
SeesCond m who cond = mapped found (Ok tt) ≡ object_in (world m) (caller_by (path m) (user who) []) cond_of (path m who.space) cond

module _ (m n : Contents) (who : Who) (cond mutex slot : ℕ) (valid : IsValid (world m)) (few : (world m).next ≤ depth)
    (unheld : (q : Path) → decider (world m) q ≡ None) (signals : IsSignalling (world m) (place (path m) who) cond) (paths_are : path n ≡ path m) where
  abbrev w : World
  w = world m

  abbrev other : Who
  other = record { space = who.space; slot = slot }

  abbrev me : Path
  me = place (path m) who

  abbrev x : Path
  x = place (path m) other

  abbrev verdict : Verdict
  verdict = verdicts.Done (plans.One (deeds.Wakes other mutex)) answers.Nothing

  abbrev judgement : Judgement
  judgement = record { caller = user who; chooses = true; verdict = verdict }

  none_led : (o : Option Body) → are_unfrozen w me (option_list (λ (b : Body). []) o) ≡ true
  none_led None = refl
  none_led (Some b) = refl

  judged : IsAsleep w x mutex →
      done (user_at me) (Alter x (Replace (MutexLock mutex)) ∷ []) [] ≡ allowed_row w (user_at me) (Some x) (CondSignal cond) →
      IsJudged m (picking who other) asks.Run judgement
  judged asleep row =
      stage_judged m (picking who other) (CondSignal cond) verdict signals.free (record { later = []; todo = signals.alone }) row
      ((tt, asleep), λ given. tt) (λ none. tt)

  pub has_woken : SeesCond m who cond → Some mutex ≡ asleep_on cond (w.body x) → IsAsleep w x mutex →
      world n ≡ apply (Alter me (Finish [])) (apply (Alter x (Replace (MutexLock mutex))) w) → HasWoken m n who other
  unfolding apply_all
  has_woken first sleeps asleep world_is =
      let row = sym (signal_row w me x cond mutex (sym first) (same_path_refl (path m who.space)) (sym sleeps)) in
      let is = judged asleep row in
      let ready : IsReadyMove m (picking who other) asks.Run =
      subst (λ (o : Outcome). GoesAllowed w me o) (sym is.outcome) (
        record { object = rw (unheld x) refl; changed = none_led (w.body x); made = refl },
        (record { object = rw (unheld me) refl; changed = none_led (w.body me); made = refl }, tt),
      ) in
      let step : IsStepTo m (picking who other) asks.Run n says.Nothing =
      step_judged m (picking who other) asks.Run judgement is ready ∙ ap (λ (u : World). record { world = u; said = outcomes.Said.Nothing }) (sym world_is) in
      record {
        ready = ready;
        step = step;
        ended = quiet_judged m n (picking who other) asks.Run judgement says.Nothing valid few refl is (ready, step);
        touched = touching m (picking who other) asks.Run judgement is;
        row = record { cond = cond; mutex = mutex; alone = signals.alone; asleep = asleep; changes = ap listed is.outcome };
        on = subst (λ (u : World). holds is_under_way (thread_at u (place (path n) who)) ≡ true) (sym world_is)
            (subst (λ (p : ℕ → Path).
            holds is_under_way (thread_at (apply (Alter me (Finish [])) (apply (Alter x (Replace (MutexLock mutex))) w)) (place p who)) ≡ true)
            (sym paths_are)
            (runs_then w who.slot (path m who.space) x (Replace (MutexLock mutex)) (CondSignal cond)
            (different w me x cond mutex signals.alone asleep) signals.free signals.alone));
        locks = rw (world_is, paths_are)
            (locks_then w me x asleep.0 mutex (different_from w me x cond mutex signals.alone asleep) asleep.1);
      }

-- ---- who signals

pub signalling_if : (w : World) (x : Path) (p : ℕ → Path) (t : threads_of.Thread) (o : Option ℕ) → is_free_at w x ≡ true →
    Some (thread_by p t) ≡ thread_at w x → t.mode ≡ modes.Calling → IfSome o (λ cond. todo_of t.regs ≡ Some (CondSignal cond ∷ [])) →
    IfSome o (IsSignalling w x)
signalling_if w x p t None free there mode named = tt
signalling_if w x p t (Some cond) free there mode named =
    record { free = free; alone = named_alone w x p t (CondSignal cond) there mode named }
