-- Callers: who makes a call of one stage, where nothing but the call itself can bar it.
use Rattle.std.specs.Prelude.{◌≡◌, ℕ, Bool, true, false, ◌==◌, List, [], ◌∷◌, Some, None, slice_index}
use Rattle.fk_model.specs.declared.moves.Ask.TheVariants as asks
use Rattle.fk_model.specs.declared.stage.Stage.{Stage}
use Rattle.fk_model.specs.declared.statuses.status.TheConstants.{OK}
use Rattle.fk_model.specs.Places.{Path}
use Rattle.fk_model.specs.Objects.{Mode, Thread, holds}
use Rattle.fk_model.specs.Objects.Mode.{Running, Calling}
use Rattle.fk_model.specs.Objects.Body.{Thread_of}
use Rattle.fk_model.specs.World.{World}
use Rattle.fk_model.specs.Searches.{thread_at}
use Rattle.fk_model.specs.Holds.{is_free, is_unheld, is_porter}
use Rattle.fk_model.specs.Moves.{Step, step}

-- a free user thread stands in a slot of a space, in the call that has this stage alone
pub record IsUserAt (w : World) (space : Path) (slot : ℕ) (stage : Stage) : Type 0 where
  pub thread : Thread
  pub rest : List ℕ
  pub there : w.body (slot ∷ space) ≡ Some (Thread_of thread)
  pub free : is_free w space thread ≡ true
  pub mode : thread.mode ≡ Calling (stage ∷ []) rest

-- a free porter stands there
pub record IsPorterFor (w : World) (space : Path) (slot : ℕ) (stage : Stage) : Type 0 where
  pub thread : Thread
  pub there : w.body (slot ∷ space) ≡ Some (Thread_of thread)
  pub porter : is_porter thread.mode ≡ true
  pub free : is_unheld w space ≡ true

-- the step of a user, and of a porter that asks for a stage and gives these words. Neither picks
abbrev pub users_step : World → Path → ℕ → Step
users_step w space slot = step w (slot ∷ space) None asks.Run

abbrev pub porters_step : World → Path → ℕ → Stage → List ℕ → Step
porters_step w space slot stage words = step w (slot ∷ space) None (asks.Call stage words)

-- a call has ended OK: its thread runs, with that status in its first register
abbrev pub is_ended_ok : Mode → Bool
is_ended_ok (Running g) = slice_index g 0 == OK
is_ended_ok other = false

abbrev pub is_done : World → Path → Bool
is_done w x = holds (λ (t : Thread). is_ended_ok t.mode) (thread_at w x)
