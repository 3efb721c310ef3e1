-- Promises: what the laws of state and holds say of a kernel's steps.
use Rattle.std.proofs.Common.{◌≡◌, ◌≤◌, true, Option, Some, None, Result, Ok, Err, IsSome, IfOk, IfSome, IfNone, refl}
use Rattle.fk_model.specs.declared.moves.Ask.{Ask}
use Rattle.fk_model.specs.declared.moves.Move.{Move}
use Rattle.fk_model.specs.declared.moves.Said.{Said}
use Rattle.fk_model.specs.World.{World}
use Rattle.fk_model.specs.Searches.{depth}
use Rattle.fk_model.specs.Moves.{IsReady}
use Rattle.fk_model.specs.Valid.{IsValid}
use Rattle.fk_model.specs.Whole.{HasFullPages}
use Rattle.fk_model.specs.Who.{space_born, event_of}
use Rattle.fk_store.specs.Store.Contents.{Contents}
use Rattle.fk_store.specs.Store.Moves.{said_by}
use Rattle.fk_store.specs.Store.Paths.{path}
use Rattle.fk_store.specs.Store.World.{world}
use Rattle.fk_turns.specs.Steps.Tellings.{Told}
use Rattle.fk_turns.specs.Steps.Judgements.{is_fit_move, IsReadyMove, IsStepTo}
use Rattle.laws_moves.specs.Whole.Runnable.{HasRegisters, IsRunnable}
use Rattle.laws_moves.specs.Prompt.Correct.{HasShapes}
use Rattle.laws_moves.specs.Prompt.Events.{IsPrompt, IsCorrect}
use Rattle.laws_moves.proofs.InPrompt.Events.{prompt_is_ready, correct_step}
use Rattle.fk_kernel.specs.Events.{is_fit_event}

-- a store's world is runnable, by what a store tells of it
pub sized-runnable : (w : World) → IsValid w → w.next ≤ depth → HasFullPages w → HasRegisters w → IsRunnable w
sized-runnable w valid few full registers = record { whole = record { valid = valid; few = few; full = full }; registers = registers }

module _ (m : Contents) (move : Move) (ask : Ask) (born : path m ≡ space_born (world m)) where
  -- a fit event is a fit move
  pub fit-move : is_fit_event (world m) (event_of (world m) ask move) ≡ true → is_fit_move m move ask ≡ true
  fit-move fit = rw born fit

  -- a prompt move is ready
  pub prompt-ready : IsPrompt (world m) (event_of (world m) ask move) → IsReadyMove m move ask
  prompt-ready prompt = rw born (prompt_is_ready (world m) (event_of (world m) ask move) prompt)

  -- a step is correct
  pub correct-made : IsRunnable (world m) → HasShapes (world m) → (n : Contents) (said : Said) → IsStepTo m move ask n said →
      IsCorrect (world m) (event_of (world m) ask move) (world n) (said_by (path n) said)
  correct-made runs shapes n said is =
      correct_step (world m) (event_of (world m) ask move) (world n) (said_by (path n) said) runs shapes (rw born at is)

  pub correct-tried : {E : Type 0} → IsRunnable (world m) → HasShapes (world m) → (n : Contents) (R : Type 0) (r : Result (Option Told) E) →
      IfOk r (λ tried. IfSome tried (λ told. R × IsStepTo m move ask n told.said)) →
      IfOk r (λ tried. IfSome tried (λ told. IsCorrect (world m) (event_of (world m) ask move) (world n) (said_by (path n) told.said)))
  correct-tried runs shapes n R (Ok (Some told)) made = correct-made runs shapes n told.said made.1
  correct-tried runs shapes n R (Ok None) made = made
  correct-tried runs shapes n R (Err e) made = made

  -- a prompt move that is tried is made
  pub prompt-tried : {E : Type 0} (N : Type 0) (r : Result (Option Told) E) →
      IfOk r (λ tried. IfNone tried ((IsReadyMove m move ask → ⊥) × N)) →
      IsPrompt (world m) (event_of (world m) ask move) → IfOk r IsSome
  prompt-tried N (Ok (Some told)) unready prompt = refl
  prompt-tried N (Ok None) unready prompt = absurd (unready.0 (prompt-ready prompt))
  prompt-tried N (Err e) unready prompt = unready

  pub correct-step : {E : Type 0} → IsRunnable (world m) → HasShapes (world m) → (n : Contents) (r : Result Said E) →
      IfOk r (λ said. IsStepTo m move ask n said) →
      IfOk r (λ said. IsCorrect (world m) (event_of (world m) ask move) (world n) (said_by (path n) said))
  correct-step runs shapes n (Ok said) is = correct-made runs shapes n said is
  correct-step runs shapes n (Err e) is = is
