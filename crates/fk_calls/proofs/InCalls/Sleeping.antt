-- Sleeping: a thread that waits on a condition unlocks its mutex, and sleeps.
use Rattle.std.proofs.Common.{◌≡◌, ◌≤◌, ◌||◌, ℕ, nat_le, Bool, true, false, [], ◌∷◌, Option, Some, None, Ok, option_map}
use Rattle.std.proofs.Common.{if◌then◌else◌, refl, sym, ap, subst, ◌∙◌}
use Rattle.fk_model.specs.declared.moves.Ask.TheVariants as asks
use Rattle.fk_model.specs.declared.moves.Said.TheVariants as says
use Rattle.fk_model.specs.declared.names.Who.{Who}
use Rattle.fk_model.specs.declared.stage.Stage.TheVariants.{CondAsleep, CondWait}
use Rattle.fk_model.specs.Freezing.{are_unfrozen}
use Rattle.fk_model.specs.Holds.{decider, is_user}
use Rattle.fk_model.specs.LinkRows.{user_at}
use Rattle.fk_model.specs.Moves.{allowed_row, call_row, outcome, GoesAllowed}
use Rattle.fk_model.specs.Objects.{Body, Mode, Thread, and_then, holds, mutex_of}
use Rattle.fk_model.specs.Objects.Body.{Cond, Mutex}
use Rattle.fk_model.specs.Objects.Mode.{Calling, Halted, Native, Running}
use Rattle.fk_model.specs.Outcomes.{Outcome, last_slot, listed, path_of}
use Rattle.fk_model.specs.Outcomes as outcomes
use Rattle.fk_model.specs.Outcomes.Outcome.{Goes, Waits}
use Rattle.fk_model.specs.Outcomes.Said.{Nothing}
use Rattle.fk_model.specs.Places.{Path, same_path}
use Rattle.fk_model.specs.Readers.{object_in, seen_as}
use Rattle.fk_model.specs.Searches.{depth, option_list, thread_at}
use Rattle.fk_model.specs.SyncRows.{cond_asleep, cond_of, cond_wait}
use Rattle.fk_model.specs.Valid.{IsValid}
use Rattle.fk_model.specs.World.{World, apply, apply_all, edited}
use Rattle.fk_model.specs.World.Change.{Alter}
use Rattle.fk_model.specs.World.Edit.{Replace, SetLocked}
use Rattle.fk_model.proofs.walks.PlaceLaws.{same_path_refl}
use Rattle.fk_changes.proofs.InThreads.Falling.{first_unlocked}
use Rattle.fk_changes.specs.Readers.Callers.{mapped}
use Rattle.fk_changes.specs.Readers.Readings.{found}
use Rattle.fk_plans.specs.declared.plans.plan.Deed.TheVariants as deeds
use Rattle.fk_plans.specs.declared.plans.plan.Plan.TheVariants as plans
use Rattle.fk_plans.specs.declared.plans.plan.Verdict.{Verdict}
use Rattle.fk_plans.specs.declared.plans.plan.Verdict.TheVariants as verdicts
use Rattle.fk_plans.specs.Plans.Plans.{caller_by}
use Rattle.fk_store.specs.Store.Contents.{Contents}
use Rattle.fk_store.specs.Store.Paths.{path, place}
use Rattle.fk_store.specs.Store.Threads.{is_free_at, todo_at, todo_of_mode, todo_of_thread}
use Rattle.fk_store.specs.Store.World.{world}
use Rattle.fk_calls.specs.declared.calls.going.Then.TheVariants as thens
use Rattle.fk_calls.specs.declared.calls.going.What.TheVariants as whats
use Rattle.fk_calls.specs.declared.calls.judging.Judgement.{Judgement}
use Rattle.fk_calls.specs.Calls.Goings.{run_of, HasGone}
use Rattle.fk_calls.specs.Calls.Judgements.{IsJudged, IsReadyMove, IsStepTo, TellsTouched}
use Rattle.fk_plans.specs.declared.wakes.touching.Touched.TheVariants.{Few}
use Rattle.fk_plans.specs.Wakes.Touches.{leave, MovesFirst}
use Rattle.fk_calls.proofs.InCalls.Judged.{held_user, quiet_judged, stage_judged, staged_user, step_judged, user}
use Rattle.fk_calls.proofs.InCalls.Locking.{body_of_thread, left_thread, named, seen_mutex, Sees}
use Rattle.fk_calls.proofs.InCalls.Touches.{touching}

-- ---- the rows

sleep_row : (w : World) (x : Path) (c k : ℕ) (pick : Option Path) → object_in w (user_at x) cond_of (user_at x).space c ≡ Ok Cond →
    object_in w (user_at x) mutex_of (user_at x).space k ≡ Ok true → allowed_row w (user_at x) pick (CondWait c k)
    ≡ Goes (Alter (k ∷ (user_at x).space) (SetLocked false) ∷ Alter (path_of (user_at x)) (Replace (CondAsleep c k)) ∷ []) Nothing
unfolding cond_wait
sleep_row w x c k pick first second = rw (first, second) refl

asleep_row : (w : World) (x : Path) (c k : ℕ) (pick : Option Path) (locked : Bool) → object_in w (user_at x) cond_of (user_at x).space c ≡ Ok Cond →
    object_in w (user_at x) mutex_of (user_at x).space k ≡ Ok locked → allowed_row w (user_at x) pick (CondAsleep c k) ≡ Waits
unfolding cond_asleep
asleep_row w x c k pick locked first second = rw (first, second) refl

-- ---- what is read stays there

-- a change that leaves what is seen in a slot
seen_then : {A : Type 0} (view : Body → Option A) (w v : World) (x s : Path) (k : ℕ) (a b : A) → object_in w (user_at x) view s k ≡ Ok a →
    (and_then view (w.body (k ∷ s)) ≡ Some a → and_then view (v.body (k ∷ s)) ≡ Some b) → object_in v (user_at x) view s k ≡ Ok b
unfolding object_in
seen_then view w v x s k a b is stays = by (nat_le k (last_slot (user_at x))) refl
  where
    back : (o : Option Body) → seen_as view o ≡ Ok a → and_then view o ≡ Some a
    back None h = absurd (cc)
    back (Some y) h = by_view (view y) refl
      where
        by_view : (r : _) → view y ≡ r → view y ≡ Some a
        by_view None e = let off = rw e at h in absurd (cc)
        by_view (Some z) e = let same = rw e at h in e ∙ cc

    forth : (o : Option Body) → and_then view o ≡ Some b → seen_as view o ≡ Ok b
    forth None h = absurd (cc)
    forth (Some y) h = rw h refl

    by : (low : Bool) → nat_le k (last_slot (user_at x)) ≡ low → object_in v (user_at x) view s k ≡ Ok b
    by true low = let seen = rw low at is in rw low (forth (v.body (k ∷ s)) (stays (back (w.body (k ∷ s)) seen)))
    by false low = let off = rw low at is in absurd (cc)

module _ (w : World) (me at : Path) (c k : ℕ) where
  abbrev pub then_world : World
  then_world = apply (Alter me (Replace (CondAsleep c k))) (apply (Alter at (SetLocked false)) w)

  cond_stays : (q : Path) → and_then cond_of (w.body q) ≡ Some Cond → and_then cond_of (then_world.body q) ≡ Some Cond
  unfolding apply edited
  cond_stays q is = by (same_path q me) (same_path q at) (w.body q) is
    where
      by : (a b : Bool) (o : Option Body) → and_then cond_of o ≡ Some Cond →
          and_then cond_of (if a then option_map (edited (Replace (CondAsleep c k))) (if b then option_map (edited (SetLocked false)) o else o)
          else (if b then option_map (edited (SetLocked false)) o else o)) ≡ Some Cond
      by a b None h = absurd (cc)
      by true true (Some Cond) h = refl
      by true false (Some Cond) h = refl
      by false true (Some Cond) h = refl
      by false false (Some Cond) h = refl
      by a b (Some y) h = absurd (cc)

  mutex_stays : (q : Path) (locked : Bool) → and_then mutex_of (w.body q) ≡ Some locked →
      and_then mutex_of (then_world.body q) ≡ Some (if same_path q at then false else locked)
  unfolding apply edited
  mutex_stays q locked is = by (same_path q me) (same_path q at) (w.body q) is
    where
      by : (a b : Bool) (o : Option Body) → and_then mutex_of o ≡ Some locked →
          and_then mutex_of (if a then option_map (edited (Replace (CondAsleep c k))) (if b then option_map (edited (SetLocked false)) o else o)
          else (if b then option_map (edited (SetLocked false)) o else o)) ≡ Some (if b then false else locked)
      by a b None h = absurd (cc)
      by true true (Some (Mutex old)) h = refl
      by true false (Some (Mutex old)) h = h
      by false true (Some (Mutex old)) h = refl
      by false false (Some (Mutex old)) h = h
      by a b (Some y) h = absurd (cc)

-- ---- who sleeps then

record Slept (v : World) (x : Path) (c k : ℕ) : Type 0 where
  user : holds (λ (t : Thread). is_user t.mode) (thread_at v x) ≡ true
  asleep : todo_at v x ≡ CondAsleep c k ∷ []

sleeps_then : (w : World) (k2 : ℕ) (s at : Path) (c k : ℕ) → todo_at w (k2 ∷ s) ≡ CondWait c k ∷ [] → Slept (then_world w (k2 ∷ s) at c k) (k2 ∷ s) c k
unfolding apply edited todo_at
sleeps_then w k2 s at c k alone = by (thread_at w (k2 ∷ s)) refl alone
  where
    me : Path
    me = k2 ∷ s

    by_mode : (t : Thread) (mode : Mode) → t.mode ≡ mode → thread_at w me ≡ Some t → todo_of_mode mode ≡ CondWait c k ∷ [] → Slept (then_world w me at c k) me c k
    by_mode t (Calling todo rest) e there alone =
        let body = left_thread w me at false t (body_of_thread (w.body me) t there) in
        record { user = rw (same_path_refl me, body, e, alone) refl; asleep = rw (same_path_refl me, body, e, alone) refl }
    by_mode t (Running g) e there alone = absurd (cc)
    by_mode t (Halted g code) e there alone = absurd (cc)
    by_mode t (Native g) e there alone = absurd (cc)

    by : (o : Option Thread) → thread_at w me ≡ o → todo_of_thread o ≡ CondWait c k ∷ [] → Slept (then_world w me at c k) me c k
    by None there alone = absurd (cc)
    by (Some t) there alone = by_mode t t.mode refl there alone

-- no move of who sleeps so is ready
asleep_waits : (v : World) (k2 : ℕ) (s : Path) (c k : ℕ) (locked : Bool) → todo_at v (k2 ∷ s) ≡ CondAsleep c k ∷ [] →
    object_in v (user_at (k2 ∷ s)) cond_of s c ≡ Ok Cond → object_in v (user_at (k2 ∷ s)) mutex_of s k ≡ Ok locked → (pick : Option Path) →
    outcome v (k2 ∷ s) pick asks.Run ≡ Waits
unfolding call_row
asleep_waits v k2 s c k locked asleep first second pick = by (is_free_at v (k2 ∷ s)) refl
  where
    row : allowed_row v (user_at (k2 ∷ s)) pick (CondAsleep c k) ≡ Waits
    row = asleep_row v (k2 ∷ s) c k pick locked first second

    by : (b : Bool) → is_free_at v (k2 ∷ s) ≡ b → outcome v (k2 ∷ s) pick asks.Run ≡ Waits
    by true free = staged_user v k2 s pick (CondAsleep c k) free (record { later = []; todo = asleep }) ∙ rw row refl
    by false held = held_user v k2 s pick held

-- ---- the move

module _ (m n : Contents) (who mutex : Who) (c k : ℕ) (valid : IsValid (world m)) (few : (world m).next ≤ depth)
    (unheld : (q : Path) → decider (world m) q ≡ None) (free : is_free_at (world m) (place (path m) who) ≡ true) (is : mutex ≡ named who k)
    (paths_are : path n ≡ path m) (alone : todo_at (world m) (place (path m) who) ≡ CondWait c k ∷ []) where
  abbrev w : World
  w = world m

  abbrev me : Path
  me = place (path m) who

  abbrev at : Path
  at = place (path m) mutex

  abbrev verdict : Verdict
  verdict = verdicts.Goes (plans.Two (deeds.Locks mutex false) (deeds.Sleeps who c mutex.slot))

  abbrev judgement : Judgement
  judgement = record { caller = user who; chooses = false; verdict = verdict }

  at_is : at ≡ k ∷ path m who.space
  at_is = ap (λ (q : Who). place (path m) q) is

  slot_is : mutex.slot ≡ k
  slot_is = ap (λ (q : Who). q.slot) is

  none_led : (o : Option Body) → are_unfrozen w me (option_list (λ (b : Body). []) o) ≡ true
  none_led None = refl
  none_led (Some b) = refl

  judged : Goes (Alter at (SetLocked false) ∷ Alter me (Replace (CondAsleep c mutex.slot)) ∷ []) Nothing ≡ allowed_row w (user_at me) None (CondWait c k) →
      IsJudged m (run_of who) asks.Run judgement
  judged row =
      stage_judged m (run_of who) (CondWait c k) verdict free (record { later = []; todo = alone }) row
      (tt, (tt, first_unlocked w at me false (CondWait c mutex.slot) (rw (slot_is, alone) refl), refl)) (λ none. tt)

  -- that it touches itself needn't be told
  own : (s a : Bool) → (s || (a || (s || false))) ≡ true → (s || (a || (false || false))) ≡ true
  own true a is = refl
  own false true is = refl
  own false false is = absurd (cc)

  touched_own : IsJudged m (run_of who) asks.Run judgement → TellsTouched m (run_of who) asks.Run (Few (Some mutex) None None)
  touched_own is =
      let told = touching m (run_of who) asks.Run judgement is in
      record {
        names = λ x n. own (same_path x me) (same_path x at) (told.names x n);
        leaves = ap (λ (o : Outcome). leave (path m) (Few (Some mutex) None None) (listed o)) is.outcome;
        makes = λ sure. refl;
        moves = subst (MovesFirst (path m) (Few (Some mutex) None None)) (sym is.outcome) refl;
      }

  abbrev SeesCond : Type 0
  SeesCond = mapped found (Ok tt) ≡ object_in w (caller_by (path m) (user who) []) cond_of (path m who.space) c

  row_is : SeesCond → Sees m who k true →
      Goes (Alter at (SetLocked false) ∷ Alter me (Replace (CondAsleep c mutex.slot)) ∷ []) Nothing ≡ allowed_row w (user_at me) None (CondWait c k)
  row_is first second =
      subst (λ (q : Who). Goes (Alter (place (path m) q) (SetLocked false) ∷ Alter me (Replace (CondAsleep c q.slot)) ∷ []) Nothing
      ≡ allowed_row w (user_at me) None (CondWait c k)) (sym is) (sym (sleep_row w me c k None (sym first) (sym second)))

  pub sleep_gone : SeesCond → Sees m who k true →
      world n ≡ apply (Alter me (Replace (CondAsleep c k))) (apply (Alter at (SetLocked false)) w) → HasGone m n who (whats.Sleeps c mutex) thens.Asleep
  unfolding apply_all
  sleep_gone first second world_is =
      let row = row_is first second in
      let is_judged = judged row in
      let ready : IsReadyMove m (run_of who) asks.Run = subst (λ (o : Outcome). GoesAllowed w me o) (sym is_judged.outcome) (
        record { object = rw (unheld at) refl; changed = none_led (w.body at); made = refl },
        (record { object = rw (unheld me) refl; changed = none_led (w.body me); made = refl }, tt),
      ) in
      let now : world n ≡ apply (Alter me (Replace (CondAsleep c mutex.slot))) (apply (Alter at (SetLocked false)) w) =
      subst (λ (j : ℕ). world n ≡ apply (Alter me (Replace (CondAsleep c j))) (apply (Alter at (SetLocked false)) w)) (sym slot_is) world_is in
      let step : IsStepTo m (run_of who) asks.Run n says.Nothing =
      step_judged m (run_of who) asks.Run judgement is_judged ready ∙ ap (λ (u : World). record { world = u; said = outcomes.Said.Nothing }) (sym now) in
      let slept = sleeps_then w who.slot (path m who.space) at c k alone in
      let seen = seen_mutex w me (path m who.space) k true (sym second) in
      record {
        ready = ready;
        step = step;
        ended = quiet_judged m n (run_of who) asks.Run judgement says.Nothing valid few refl is_judged (ready, step);
        touched = touched_own is_judged;
        row = record {
          begins = record { stage = CondWait c k; alone = alone; lock = refl };
          changes = ap listed is_judged.outcome;
          found = ap (λ (y : Path). and_then mutex_of (w.body y)) at_is ∙ seen;
        };
        at_then = record {
          user = rw (world_is, paths_are) slept.user;
          waits = rw (world_is, paths_are) (λ any.
              let out = asleep_waits (then_world w me at c k) who.slot (path m who.space) c k _ slept.asleep
              (seen_then cond_of w (then_world w me at c k) me (path m who.space) c Cond Cond (sym first) (cond_stays w me at c k (c ∷ path m who.space)))
              (seen_then mutex_of w (then_world w me at c k) me (path m who.space) k true _ (sym second)
              (mutex_stays w me at c k (k ∷ path m who.space) true)) any.0 in
              rw out at any.1);
        };
      }
