-- Calls that are fit wherever they are made, and pick nobody.
use Rattle.std.specs.Prelude.{◌≡◌, ℕ, Bool, true, false, not, ◌&&◌, Some, IfSome}
use Rattle.fk_model.specs.declared.moves.Ask.{Ask}
use Rattle.fk_model.specs.declared.moves.Ask.TheVariants as asks
use Rattle.fk_model.specs.declared.stage.Stage.{Stage}
use Rattle.fk_model.specs.Moves.{chooses}
use Rattle.fk_model.specs.Places.{Path}
use Rattle.fk_model.specs.StageFacts.{Rebuilt, facts_of}
use Rattle.fk_model.specs.StageFacts.Rebuilt.{Rebuilds_nothing, A_talk, A_fault, A_hold, A_space}
use Rattle.fk_model.specs.Valid.{is_fit}
use Rattle.fk_model.specs.World.{World}
use Rattle.laws_checkpoint.specs.Checkpoint as checkpoints
use Rattle.laws_house.specs.Houses.{machine}
use Rattle.laws_house.specs.Houses.State.{Checking}
use Rattle.fk_jobs.specs.Jobs.{Queue, call_at, asked_by, state_of}

-- neither a talk nor a fault
abbrev pub makes_no_peer : Rebuilt → Bool
makes_no_peer A_talk = false
makes_no_peer A_fault = false
makes_no_peer A_hold = true
makes_no_peer A_space = true
makes_no_peer Rebuilds_nothing = true

-- none that picks somebody, and none that makes a talk or a fault again
abbrev pub is_stage_fit_anywhere : Stage → Bool
is_stage_fit_anywhere stage = not (chooses stage) && makes_no_peer (facts_of stage).rebuilds

abbrev pub is_fit_anywhere : Ask → Bool
is_fit_anywhere (asks.Call stage words) = is_stage_fit_anywhere stage
is_fit_anywhere other = false

-- a checkpoint asks for calls alone that are fit wherever they are made
abbrev pub CheckpointCallsFitAnywhere : Type 0
CheckpointCallsFitAnywhere = (slot : ℕ) (s : checkpoints.State) (ask : Ask) → call_at (machine.head (Checking slot s)) ≡ Some ask → is_fit_anywhere ask ≡ true

-- a call that is fit anywhere is fit in each world
abbrev pub FitAnywhereIsFit : Type 0
FitAnywhereIsFit = (w : World) (x : Path) (ask : Ask) → is_fit_anywhere ask ≡ true → is_fit w x ask ≡ true

-- it picks nobody
abbrev pub picks_nobody : Ask → Bool
picks_nobody (asks.Call stage words) = not (chooses stage)
picks_nobody other = false

-- so does what the job asks for whose turn it is
abbrev pub PicksNobody : Queue → Type 0
PicksNobody q = IfSome (asked_by (state_of q)) (λ ask. picks_nobody ask ≡ true)

-- no job picks anybody
abbrev pub JobsPickNobody : Type 0
JobsPickNobody = (q : Queue) → PicksNobody q
