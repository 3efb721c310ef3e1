-- Doings: the move of a thread, by what it does next.
use Rattle.std.proofs.Common.{◌≡◌, ℕ, Bool, true, false, List, [], ◌∷◌, Option, Some, None, unwrap_or, refl, sym, ap, ◌∙◌}
use Rattle.fk_model.specs.declared.moves.Ask.TheVariants as asks
use Rattle.fk_model.specs.declared.stage.Stage.{Stage}
use Rattle.fk_model.specs.declared.thread.Thread as threads_of
use Rattle.fk_model.specs.declared.thread.Mode.TheVariants as modes
use Rattle.fk_model.specs.Calls.{todo_of, rest_of}
use Rattle.fk_model.specs.Places.{Path, parent}
use Rattle.fk_model.specs.Objects.{Thread}
use Rattle.fk_model.specs.Objects.Mode.{Calling}
use Rattle.fk_model.specs.World.{World}
use Rattle.fk_model.specs.Holds.{is_free}
use Rattle.fk_model.specs.Moves.{goes_on, user_move, outcome}
use Rattle.fk_model.specs.Outcomes.{Outcome, when}
use Rattle.fk_model.specs.Outcomes.Outcome.{Waits}
use Rattle.fk_plans.specs.Plans.Effects.{is_running}
use Rattle.fk_store.specs.Store.Bodies.{thread_by}
use Rattle.fk_store.specs.Store.Threads.{todo_at}
use Rattle.fk_calls.specs.Calls.Doings.{first_of, IsAtStage}
use Rattle.fk_model.specs.Searches.{thread_at}

-- ---- who doesn't move

never : (free : Bool) (o : Outcome) → o ≡ Waits → when free o ≡ Waits
never true o e = e
never false o e = refl

pub idle_nobody : (w : World) (x : Path) (pick : Option Path) → thread_at w x ≡ None → outcome w x pick asks.Run ≡ Waits
unfolding outcome
idle_nobody w x pick none = ap (user_move w x pick) none

idle_thread : (w : World) (x : Path) (pick : Option Path) (t : Thread) →
    thread_at w x ≡ Some t → goes_on w x pick t t.mode ≡ Waits → outcome w x pick asks.Run ≡ Waits
unfolding outcome
idle_thread w x pick t there idle = ap (user_move w x pick) there ∙ never (is_free w (parent x) t) _ idle

pub idle_halted : (w : World) (x : Path) (p : ℕ → Path) (pick : Option Path) (t : threads_of.Thread) (code : ℕ) →
    Some (thread_by p t) ≡ thread_at w x → t.mode ≡ modes.Halted code → outcome w x pick asks.Run ≡ Waits
idle_halted w x p pick t code there is = idle_thread w x pick (thread_by p t) (sym there) (rw is refl)

pub idle_native : (w : World) (x : Path) (p : ℕ → Path) (pick : Option Path) (t : threads_of.Thread) →
    Some (thread_by p t) ≡ thread_at w x → t.mode ≡ modes.Native → outcome w x pick asks.Run ≡ Waits
idle_native w x p pick t there is = idle_thread w x pick (thread_by p t) (sym there) (rw is refl)

-- registers that name no call
idle_first : (w : World) (x : Path) (pick : Option Path) (t : Thread) (g rest : List ℕ) →
    first_of (todo_of g) ≡ None → goes_on w x pick t (Calling (unwrap_or (todo_of g) []) rest) ≡ Waits
idle_first w x pick t g rest none = by (todo_of g) none
  where
    by : (o : Option (List Stage)) → first_of o ≡ None → goes_on w x pick t (Calling (unwrap_or o []) rest) ≡ Waits
    by None none = refl
    by (Some []) none = refl
    by (Some (stage ∷ todo)) none = absurd (cc)

pub idle_unnamed : (w : World) (x : Path) (p : ℕ → Path) (pick : Option Path) (t : threads_of.Thread) →
    Some (thread_by p t) ≡ thread_at w x → t.mode ≡ modes.Calling → first_of (todo_of t.regs) ≡ None → outcome w x pick asks.Run ≡ Waits
idle_unnamed w x p pick t there is none =
    idle_thread w x pick (thread_by p t) (sym there) (rw is (idle_first w x pick (thread_by p t) t.regs (rest_of (unwrap_or (todo_of t.regs) []) t.regs) none))

-- ---- who does

pub does_run : (w : World) (x : Path) (p : ℕ → Path) (t : threads_of.Thread) →
    Some (thread_by p t) ≡ thread_at w x → t.mode ≡ modes.Running → is_running (thread_at w x) ≡ true
does_run w x p t there is = rw (← there, is) refl

pub does_call : (w : World) (x : Path) (p : ℕ → Path) (t : threads_of.Thread) (stage : Stage) →
    Some (thread_by p t) ≡ thread_at w x → t.mode ≡ modes.Calling → first_of (todo_of t.regs) ≡ Some stage → IsAtStage w x stage
unfolding todo_at
does_call w x p t stage there is first = by (todo_of t.regs) refl first
  where
    by : (o : Option (List Stage)) → todo_of t.regs ≡ o → first_of o ≡ Some stage → IsAtStage w x stage
    by None e first = absurd (cc)
    by (Some []) e first = absurd (cc)
    by (Some (other ∷ later)) e first = let same : other ≡ stage = cc in record { later = later; todo = rw (← there, is, e, ← same) refl }
