-- What the move of a caller comes to: its stage's row, ended where it is refused.
use Rattle.std.proofs.Common.{◌≡◌, ℕ, true, false, ◌&&◌, not, List, ◌∷◌, Option, Some, None, is_some, refl, ap, ◌∙◌}
use Rattle.std.proofs.lemmas.Bool.{and_parts}
use Rattle.fk_model.specs.declared.moves.Ask.TheVariants as asks
use Rattle.fk_model.specs.declared.stage.Stage.{Stage}
use Rattle.fk_model.specs.Places.{Path, Ptr}
use Rattle.fk_model.specs.Objects.{Thread, thread_of, and_then}
use Rattle.fk_model.specs.Objects.Body.{Thread_of}
use Rattle.fk_model.specs.World.{World}
use Rattle.fk_model.specs.Holds.{decider, is_frozen_for, is_unheld}
use Rattle.fk_model.specs.Outcomes.{Outcome, when}
use Rattle.fk_model.specs.Outcomes.Outcome.{Refused, Waits, Goes}
use Rattle.fk_model.specs.LinkRows.{user_at}
use Rattle.fk_model.specs.Moves.{call_row, with_pick, goes_on, user_move, porter_at, porter_move, outcome, step, stepped}
use Rattle.laws_moves.specs.Prompt.Callers.{IsUserAt, IsPorterFor, users_step, porters_step}

pub users-outcome : (w : World) (space : Path) (slot : ℕ) (stage : Stage) → IsUserAt w space slot stage →
    outcome w (slot ∷ space) None asks.Run ≡ call_row w (user_at (slot ∷ space)) None stage
unfolding outcome
users-outcome w space slot stage at =
    ap (λ o. user_move w (slot ∷ space) None (and_then thread_of o)) at.there
    ∙ ap (λ free. when free (goes_on w (slot ∷ space) None at.thread at.thread.mode)) at.free
    ∙ ap (goes_on w (slot ∷ space) None at.thread) at.mode

pub users-step : (w : World) (space : Path) (slot : ℕ) (stage : Stage) → IsUserAt w space slot stage →
    users_step w space slot ≡ stepped w (call_row w (user_at (slot ∷ space)) None stage)
unfolding step
users-step w space slot stage at = ap (stepped w) (users-outcome w space slot stage at)

pub porters-outcome : (w : World) (space : Path) (slot : ℕ) (stage : Stage) (words : List ℕ) → IsPorterFor w space slot stage →
    outcome w (slot ∷ space) None (asks.Call stage words) ≡ call_row w (porter_at (slot ∷ space) words) None stage
unfolding outcome
porters-outcome w space slot stage words at =
    let row = call_row w (porter_at (slot ∷ space) words) None stage in
    ap (λ o. porter_move w (slot ∷ space) None stage words (and_then thread_of o)) at.there
    ∙ ap (λ porter. when (porter && is_unheld w space) row) at.porter
    ∙ ap (λ free. when free row) at.free

pub porters-step : (w : World) (space : Path) (slot : ℕ) (stage : Stage) (words : List ℕ) → IsPorterFor w space slot stage →
    porters_step w space slot stage words ≡ stepped w (call_row w (porter_at (slot ∷ space) words) None stage)
unfolding step
porters-step w space slot stage words at = ap (stepped w) (porters-outcome w space slot stage words at)

-- where a stage doesn't choose, and nobody is picked, the row is all
pub unpicked : (o : Outcome) → with_pick false None o ≡ o
unpicked (Refused status) = refl
unpicked Waits = refl
unpicked (Goes changes said) = refl

-- ---- a caller isn't frozen for itself

none-of : (o : Option Ptr) → not (is_some o) ≡ true → o ≡ None
none-of None h = refl
none-of (Some p) h = cc

pub unheld-none : (w : World) (space : Path) → is_unheld w space ≡ true → decider w space ≡ None
unheld-none w space h = none-of (decider w space) h

pub users-unheld : (w : World) (space : Path) (slot : ℕ) (stage : Stage) → IsUserAt w space slot stage → is_unheld w space ≡ true
users-unheld w space slot stage at = (and_parts _ _ (and_parts _ _ (and_parts _ _ at.free).0).0).0

pub users-faultless : (w : World) (space : Path) (slot : ℕ) (stage : Stage) (at : IsUserAt w space slot stage) → at.thread.fault ≡ None
users-faultless w space slot stage at = by at.thread.fault (and_parts _ _ (and_parts _ _ at.free).0).1
  where
    by : {A : Type 0} (o : Option A) → not (is_some o) ≡ true → o ≡ None
    by None h = refl
    by (Some a) h = cc

pub own-unfrozen : (w : World) (space : Path) (slot : ℕ) (t : Thread) → decider w space ≡ None → w.body (slot ∷ space) ≡ Some (Thread_of t) →
    is_frozen_for w (slot ∷ space) (slot ∷ space) ≡ false
unfolding decider
own-unfrozen w space slot t none there = rw (none, there) refl
