-- Doings: what a thread does next.
use Rattle.std.specs.Prelude.{◌≡◌, Bool, true, ◌&&◌, List, [], ◌∷◌, Option, Some, None}
use Rattle.fk_model.specs.declared.moves.Ask.TheVariants as asks
use Rattle.fk_model.specs.declared.stage.Stage.{Stage}
use Rattle.fk_model.specs.Holds.{is_porter, is_unheld}
use Rattle.fk_model.specs.Moves.{outcome}
use Rattle.fk_model.specs.Objects.{Thread, holds}
use Rattle.fk_model.specs.Outcomes.Outcome.{Waits}
use Rattle.fk_model.specs.Places.{Path, parent}
use Rattle.fk_model.specs.World.{World}
use Rattle.fk_plans.specs.Plans.Effects.{is_running}
use Rattle.fk_store.specs.Store.Threads.{todo_at}
use Rattle.fk_calls.specs.declared.calls.doing.Doing.{Doing}
use Rattle.fk_calls.specs.declared.calls.doing.Doing.TheVariants as doings
use Rattle.fk_model.specs.Searches.{thread_at}

-- the first of a call's stages, if the registers name a call
abbrev pub first_of : Option (List Stage) → Option Stage
first_of None = None
first_of (Some []) = None
first_of (Some (stage ∷ todo)) = Some stage

-- the thread at a path has this stage before it, and then others
pub record IsAtStage (w : World) (x : Path) (stage : Stage) : Type 0 where
  pub later : List Stage
  pub todo : todo_at w x ≡ stage ∷ later

-- the thread runs, or is at a stage of a call; else no move of it is ready
abbrev pub IsDoing : World → Path → Doing → Type 0
IsDoing w x doings.Instruction = is_running (thread_at w x) ≡ true
IsDoing w x (doings.Stage stage) = IsAtStage w x stage
IsDoing w x doings.Nothing = (pick : Option Path) → outcome w x pick asks.Run ≡ Waits

-- a porter in a space that isn't held is at the path
unfoldable pub is_free_porter_at : World → Path → Bool
is_free_porter_at w x = holds (λ (t : Thread). is_porter t.mode && is_unheld w (parent x)) (thread_at w x)
