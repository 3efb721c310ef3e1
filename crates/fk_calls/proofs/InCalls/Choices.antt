-- Choices: whom a user may pick.
use Rattle.std.proofs.Common.{◌≡◌, ℕ, Bool, true, false, cond, List, [], ◌∷◌, Option, Some, None, is_some, Result, Ok, Err, refl, ap}
use Rattle.fk_model.specs.declared.moves.Ask.TheVariants as asks
use Rattle.fk_model.specs.declared.stage.Stage.{Stage}
use Rattle.fk_model.specs.declared.stage.Stage.TheVariants.{CondSignal, Wait}
use Rattle.fk_model.specs.declared.statuses.status.TheConstants.{LINKED}
use Rattle.fk_model.specs.Holds.{is_free, is_unheld}
use Rattle.fk_model.specs.LinkRows.{Candidate, candidate, candidate_by, portset_of, user_at, wait}
use Rattle.fk_model.specs.Moves.{allowed_row, call_row, chooses, closed, with_pick, goes_on, user_move, outcome, IsReady}
use Rattle.fk_model.specs.Objects.{Mode, Thread, and_then}
use Rattle.fk_model.specs.Objects.Mode.{Running, Calling, Halted, Native}
use Rattle.fk_model.specs.Outcomes.{Outcome, Caller, ◌>>=◌, refuse, when}
use Rattle.fk_model.specs.Outcomes.Outcome.{Refused, Waits, Goes}
use Rattle.fk_model.specs.Places.{Path, parent, same_path}
use Rattle.fk_model.specs.Readers.{object_in}
use Rattle.fk_model.specs.Searches.{is_serving, thread_at}
use Rattle.fk_model.specs.SyncRows.{asleep_on, cond_of, cond_signal, picks_sleeper}
use Rattle.fk_model.specs.World.{World}
use Rattle.fk_plans.specs.Plans.Effects.{is_running, is_running_mode}
use Rattle.fk_store.specs.Store.Threads.{todo_of_mode, todo_of_thread, todo_at}
use Rattle.fk_calls.specs.Calls.Choices.{MayPick, picks_of}

alone : (q : Path) (o : Outcome) → with_pick false (Some q) o ≡ Waits
alone q (Refused status) = refl
alone q Waits = refl
alone q (Goes changes said) = refl

never : (test : Bool) (o : Outcome) → o ≡ Waits → when test o ≡ Waits
never true o e = e
never false o e = refl

-- ---- whom a wait and a signal never pick

module _ (w : World) (q : Path) where
  -- such a row is refused or waits
  abbrev Idle : Outcome → Type 0
  Idle o = with_pick true (Some q) o ≡ Waits

  idle_after : {A : Type 0} (r : Result A ℕ) (go : A → Outcome) → ((a : A) → Idle (go a)) → Idle (r >>= go)
  idle_after (Ok a) go idle = idle a
  idle_after (Err status) go idle = refl

  wait_idle : (c : Caller) (set : ℕ) → candidate w c.space set q ≡ None → Idle (wait w c (Some q) set)
  unfolding wait
  wait_idle c set none =
      idle_after (object_in w c portset_of c.space set) _ (λ there. idle_after (refuse LINKED (is_serving w (c.slot ∷ c.space))) _ (λ apart. rw none refl))

  signal_idle : (c : Caller) (cond : ℕ) → Idle (picks_sleeper w c cond (Some q)) → Idle (cond_signal w c (Some q) cond)
  unfolding cond_signal
  signal_idle c cond idle = idle_after (object_in w c cond_of c.space cond) _ (λ there. idle)

  far_idle : (c : Caller) (cond : ℕ) → same_path (parent q) c.space ≡ false → Idle (picks_sleeper w c cond (Some q))
  far_idle c cond far = rw far refl

  awake_idle : (c : Caller) (cond : ℕ) → asleep_on cond (w.body q) ≡ None → Idle (picks_sleeper w c cond (Some q))
  awake_idle c cond awake = rw awake (by (same_path (parent q) c.space))
    where
      by : (b : Bool) → Idle (when b Waits)
      by true = refl
      by false = refl

-- ---- at a stage

staged_idle : (w : World) (x q : Path) (stage : Stage) (later : List Stage) →
    todo_at w x ≡ stage ∷ later → call_row w (user_at x) (Some q) stage ≡ Waits → outcome w x (Some q) asks.Run ≡ Waits
unfolding outcome todo_at
staged_idle w x q stage later at idle = by (thread_at w x) at
  where
    on : (t : Thread) (m : Mode) → todo_of_mode m ≡ stage ∷ later → goes_on w x (Some q) t m ≡ Waits
    on t (Running g) at = absurd (cc)
    on t (Calling [] rest) at = absurd (cc)
    on t (Calling (first ∷ todo) rest) at = let same : first ≡ stage = cc in rw same idle
    on t (Halted g code) at = absurd (cc)
    on t (Native g) at = absurd (cc)

    by : (o : Option Thread) → todo_of_thread o ≡ stage ∷ later → user_move w x (Some q) o ≡ Waits
    by None at = refl
    by (Some t) at = never (is_free w (parent x) t) _ (on t t.mode at)

-- no move is ready that comes to nothing
ready_goes : (w : World) (x q : Path) → outcome w x (Some q) asks.Run ≡ Waits → IsReady w x (Some q) asks.Run → ⊥
ready_goes w x q idle ready = rw idle at ready

unchosen : (w : World) (x q : Path) (stage : Stage) → chooses stage ≡ false → call_row w (user_at x) (Some q) stage ≡ Waits
unfolding call_row
unchosen w x q stage is = rw (is, alone q (allowed_row w (user_at x) (Some q) stage)) refl

wait_row_idle : (w : World) (x q : Path) (set : ℕ) → candidate w (parent x) set q ≡ None → call_row w (user_at x) (Some q) (Wait set) ≡ Waits
unfolding call_row
wait_row_idle w x q set none = ap (closed (user_at x)) (wait_idle w q (user_at x) set none)

signal_row_idle : (w : World) (x q : Path) (cond : ℕ) → with_pick true (Some q) (picks_sleeper w (user_at x) cond (Some q)) ≡ Waits →
    call_row w (user_at x) (Some q) (CondSignal cond) ≡ Waits
unfolding call_row
signal_row_idle w x q cond idle = ap (closed (user_at x)) (signal_idle w q (user_at x) cond idle)

pub picked_stage : (w : World) (x q : Path) (stage : Stage) (later : List Stage) → todo_at w x ≡ stage ∷ later →
    IsReady w x (Some q) asks.Run → MayPick w (parent x) (picks_of stage) q
picked_stage w x q (Wait set) later at ready = by (candidate w (parent x) set q) refl
  where
    by : (o : Option Candidate) → candidate w (parent x) set q ≡ o → is_some o ≡ true
    by (Some c) e = refl
    by None e = absurd (ready_goes w x q (staged_idle w x q (Wait set) later at (wait_row_idle w x q set e)) ready)
picked_stage w x q (CondSignal cond) later at ready = by (same_path (parent q) (parent x)) (asleep_on cond (w.body q)) refl refl
  where
    idle : with_pick true (Some q) (picks_sleeper w (user_at x) cond (Some q)) ≡ Waits → ⊥
    idle none = ready_goes w x q (staged_idle w x q (CondSignal cond) later at (signal_row_idle w x q cond none)) ready

    by : (b : Bool) (o : Option ℕ) → same_path (parent q) (parent x) ≡ b → asleep_on cond (w.body q) ≡ o → (b ≡ true) × (is_some o ≡ true)
    by true (Some m) near e = (refl, refl)
    by false o near e = absurd (idle (far_idle w q (user_at x) cond near))
    by true None near e = absurd (idle (awake_idle w q (user_at x) cond e))
picked_stage w x q other later at ready = absurd (ready_goes w x q (staged_idle w x q other later at (unchosen w x q other refl)) ready)

-- ---- at an instruction

picked_running : (w : World) (x q : Path) → is_running (thread_at w x) ≡ true → outcome w x (Some q) asks.Run ≡ Waits
unfolding outcome
picked_running w x q running = by (thread_at w x) running
  where
    on : (t : Thread) (m : Mode) → is_running_mode m ≡ true → goes_on w x (Some q) t m ≡ Waits
    on t (Running g) running = alone q _
    on t (Calling todo rest) running = absurd (cc)
    on t (Halted g code) running = refl
    on t (Native g) running = refl

    by : (o : Option Thread) → is_running o ≡ true → user_move w x (Some q) o ≡ Waits
    by None running = refl
    by (Some t) running = never (is_free w (parent x) t) _ (on t t.mode running)

pub picked_nowhere : (w : World) (x q : Path) → is_running (thread_at w x) ≡ true → IsReady w x (Some q) asks.Run → ⊥
picked_nowhere w x q running ready = ready_goes w x q (picked_running w x q running) ready

pub picked_idle : (w : World) (x q : Path) → outcome w x (Some q) asks.Run ≡ Waits → IsReady w x (Some q) asks.Run → ⊥
picked_idle w x q idle ready = ready_goes w x q idle ready

-- ---- who is no thread is never picked

module _ (w : World) (q : Path) (nobody : thread_at w q ≡ None) where
  no_candidate : (s : Path) (set : ℕ) → candidate w s set q ≡ None
  unfolding candidate
  no_candidate s set = by (is_unheld w (parent q))
    where
      by : (b : Bool) → cond b (and_then (candidate_by w s set q) (thread_at w q)) None ≡ None
      by true = ap (and_then (candidate_by w s set q)) nobody
      by false = refl

  row_idle : (x : Path) (stage : Stage) → call_row w (user_at x) (Some q) stage ≡ Waits
  unfolding call_row
  row_idle x (Wait set) = wait_row_idle w x q set (no_candidate (parent x) set)
  row_idle x (CondSignal cond) = signal_row_idle w x q cond (awake_idle w q (user_at x) cond (rw nobody refl))
  row_idle x other = ap (closed (user_at x)) (alone q (allowed_row w (user_at x) (Some q) other))

  pub nobody_picked : (x : Path) → outcome w x (Some q) asks.Run ≡ Waits
  unfolding outcome
  nobody_picked x = by (thread_at w x)
    where
      on : (t : Thread) (m : Mode) → goes_on w x (Some q) t m ≡ Waits
      on t (Running g) = alone q _
      on t (Calling [] rest) = refl
      on t (Calling (stage ∷ todo) rest) = row_idle x stage
      on t (Halted g code) = refl
      on t (Native g) = refl

      by : (o : Option Thread) → user_move w x (Some q) o ≡ Waits
      by None = refl
      by (Some t) = never (is_free w (parent x) t) _ (on t t.mode)
