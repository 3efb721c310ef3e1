-- Signals: what came of a signal that wakes somebody.
use Rattle.std.specs.Prelude.{◌≡◌, ℕ, true, [], ◌∷◌, Some, None}
use Rattle.fk_model.specs.declared.moves.Ask.TheVariants as asks
use Rattle.fk_model.specs.declared.moves.Move.{Move}
use Rattle.fk_model.specs.declared.moves.Said.TheVariants as says
use Rattle.fk_model.specs.declared.names.Who.{Who}
use Rattle.fk_model.specs.declared.stage.Stage.TheVariants.{CondSignal, MutexLock}
use Rattle.fk_model.specs.Outcomes.{listed}
use Rattle.fk_model.specs.Places.{Path}
use Rattle.fk_model.specs.World.{World}
use Rattle.fk_model.specs.World.Change.{Alter}
use Rattle.fk_model.specs.World.Edit.{Finish, Replace}
use Rattle.fk_changes.specs.Threads.Sleepers.{IsAsleep}
use Rattle.fk_plans.specs.declared.wakes.touching.Touched.TheVariants.{Few}
use Rattle.fk_store.specs.Store.Contents.{Contents}
use Rattle.fk_store.specs.Store.Paths.{path, place}
use Rattle.fk_store.specs.Store.Threads.{is_free_at, todo_at}
use Rattle.fk_store.specs.Store.World.{world}
use Rattle.fk_calls.specs.Calls.Judgements.{outcome_of, IsEnded, IsReadyMove, IsStepTo, TellsTouched}
use Rattle.fk_calls.specs.Calls.Runs.{is_under_way_at}

-- a thread's move that picks another
abbrev pub picking : Who → Who → Move
picking who other = record { who = who; pick = Some other }

-- a free user's call is a signal at a condition
pub record IsSignalling (w : World) (x : Path) (cond : ℕ) : Type 0 where
  pub free : is_free_at w x ≡ true
  pub alone : todo_at w x ≡ CondSignal cond ∷ []

-- its row wakes one who sleeps there, and locks a mutex next
pub record HasSignal (m : Contents) (who other : Who) : Type 0 where
  pub cond : ℕ
  pub mutex : ℕ
  pub alone : todo_at (world m) (place (path m) who) ≡ CondSignal cond ∷ []
  pub asleep : IsAsleep (world m) (place (path m) other) mutex
  pub changes : listed (outcome_of m (picking who other) asks.Run)
      ≡ Alter (place (path m) other) (Replace (MutexLock mutex)) ∷ Alter (place (path m) who) (Finish []) ∷ []

-- it was made; then who made it runs, and the other locks its mutex
pub record HasWoken (m n : Contents) (who other : Who) : Type 0 where
  pub ready : IsReadyMove m (picking who other) asks.Run
  pub step : IsStepTo m (picking who other) asks.Run n says.Nothing
  pub ended : IsEnded m n None
  pub touched : TellsTouched m (picking who other) asks.Run (Few (Some other) None None)
  pub row : HasSignal m who other
  pub on : is_under_way_at n who ≡ true
  pub locks : todo_at (world n) (place (path n) other) ≡ MutexLock row.mutex ∷ []
