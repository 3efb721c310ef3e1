-- A job's first and last move, at their places in the history; what its end leaves; and when exactly a restore has no image.
use Rattle.std.specs.Prelude.{◌≡◌, ℕ, ◌+◌, ◌<◌, ◌≤◌, List, length, take, Some, None, ◌∷◌}
use Rattle.std.specs.List.{slice_get}
use Rattle.fk_model.specs.declared.limits.TheConstants.{OWN_SPACE}
use Rattle.fk_model.specs.declared.moves.Move.{Move}
use Rattle.fk_model.specs.declared.stage.Stage.{Stage}
use Rattle.fk_model.specs.declared.stage.Stage.TheVariants.{SpaceHold, SpaceMakeHeld}
use Rattle.fk_model.specs.Places.{Path}
use Rattle.fk_model.specs.World.{World}
use Rattle.fk_model.specs.Holds.{holder_of}
use Rattle.fk_model.specs.Valid.{birth_at}
use Rattle.fk_model.specs.Sound.{IsClean}
use Rattle.fk_image.specs.declared.image.image.Image.{Image}
use Rattle.laws_jobs.specs.Machines.{no_words}
use Rattle.laws_jobs.specs.Holds.{IsSpaceAt}
use Rattle.laws_checkpoint.specs.Checkpoint as checkpoints
use Rattle.laws_restore.specs.Restore.Restore as restores
use Rattle.laws_restore.specs.Restore.Rest as restored
use Rattle.laws_runs.specs.Cores.{JobEnd, Servers, Core, IsRun, world_at}
use Rattle.laws_runs.specs.Cores.Unmoved.{NoImage}
use Rattle.laws_runs.specs.Cores.JobEnd.{Worked, Idle}
use Rattle.laws_runs.specs.Cores.Asker.{Job as Asked_by_job}
use Rattle.laws_runs.specs.Composed.{IsStart}
use Rattle.laws_runs.specs.Turning.{asker_at}
use Rattle.laws_house.specs.Houses.{Job, Source, State, End, valid_one, sourced, house}
use Rattle.laws_house.specs.Houses.Source.{MadeBy}
use Rattle.laws_house.specs.Houses.Task.{Checkpoint, Restore}
use Rattle.laws_house.specs.Houses.State.{Checking, Restoring}
use Rattle.laws_house.specs.Houses.End.{Checked, Restored}
use Rattle.laws_house.specs.Laws.{IsGrounded}
use Rattle.laws_house.specs.Moves.{IsLastCall}

-- ---- the first and the last move

-- a checkpoint's first move is its hold; its last one is its release, but where it found no space
pub record CheckpointMoves {V : Type 0} {jobs : List Job} {servers : Servers V} {first c : Core State End V} {past : List Move}
    (run : IsRun (house jobs servers) first past c) (slot begun last : ℕ) (end : checkpoints.End) : Type 0 where
  pub order : (begun ≤ last) × (last < length past)
  pub hold : asker_at run begun ≡ Asked_by_job begun (Checking slot checkpoints.Holds) (SpaceHold OWN_SPACE slot) no_words
  pub state : checkpoints.State
  pub stage : Stage
  pub words : List ℕ
  pub ends : asker_at run last ≡ Asked_by_job begun (Checking slot state) stage words
  pub last_call : IsLastCall slot end state stage

-- the first move of a checkpoint that has ended is its hold, and its last one its release, but for one that found no space
abbrev pub CheckpointsMoveSo : Type 0 → Type 0
CheckpointsMoveSo V = (jobs : List Job) (servers : Servers V) (first c : Core State End V) (past : List Move) (run : IsRun (house jobs servers) first past c) →
    IsStart first → (index : ℕ) (j : Job) (slot begun last : ℕ) (end : checkpoints.End) → slice_get jobs index ≡ Some j → j.task ≡ Checkpoint slot →
    slice_get c.ends index ≡ Some (Worked (Checked end) begun last) → CheckpointMoves run slot begun last end

-- one that found none has made that hold alone
abbrev pub GoneAtOnce : Type 0 → Type 0
GoneAtOnce V = (jobs : List Job) (servers : Servers V) (first c : Core State End V) (past : List Move) (run : IsRun (house jobs servers) first past c) →
    IsGrounded jobs servers first past → (index : ℕ) (j : Job) (slot begun last : ℕ) → slice_get jobs index ≡ Some j → j.task ≡ Checkpoint slot →
    slice_get c.ends index ≡ Some (Worked (Checked checkpoints.Gone) begun last) → begun ≡ last

-- a restore's first move makes its space, held; its last one is its release, a stage of destroying that space, or the first itself
pub record RestoreMoves {V : Type 0} {jobs : List Job} {servers : Servers V} {first c : Core State End V} {past : List Move}
    (run : IsRun (house jobs servers) first past c) (slot : ℕ) (pairs : List (ℕ × ℕ)) (image : Image) (begun last : ℕ) (end : restores.End) : Type 0 where
  pub order : (begun ≤ last) × (last < length past)
  pub make : asker_at run begun ≡ Asked_by_job begun (Restoring slot pairs image restores.Makes) (SpaceMakeHeld slot) no_words
  pub state : restores.State
  pub stage : Stage
  pub words : List ℕ
  pub ends : asker_at run last ≡ Asked_by_job begun (Restoring slot pairs image state) stage words
  pub last_call : restored.IsLastCall slot end state stage

-- the first move of a restore that has ended makes its space, held, and its last one is its release, a stage of destroying that space, or the first move itself
abbrev pub RestoresMoveSo : Type 0 → Type 0
RestoresMoveSo V = (jobs : List Job) (servers : Servers V) (first c : Core State End V) (past : List Move) (run : IsRun (house jobs servers) first past c) →
    IsStart first → (index : ℕ) (j : Job) (slot begun last : ℕ) (pairs : List (ℕ × ℕ)) (source : Source) (image : Image) (end : restores.End) →
    slice_get jobs index ≡ Some j → j.task ≡ Restore slot pairs source → valid_one (sourced (take index c.ends) source) ≡ Some image →
    slice_get c.ends index ≡ Some (Worked (Restored end) begun last) → RestoreMoves run slot pairs image begun last end

-- and one whose slot was taken has made that first move alone
abbrev pub OccupiedAtOnce : Type 0 → Type 0
OccupiedAtOnce V = (jobs : List Job) (servers : Servers V) (first c : Core State End V) (past : List Move) (run : IsRun (house jobs servers) first past c) →
    IsGrounded jobs servers first past → (index : ℕ) (j : Job) (slot begun last : ℕ) (pairs : List (ℕ × ℕ)) (source : Source) (image : Image) →
    slice_get jobs index ≡ Some j → j.task ≡ Restore slot pairs source → valid_one (sourced (take index c.ends) source) ≡ Some image →
    slice_get c.ends index ≡ Some (Worked (Restored restores.Occupied) begun last) → begun ≡ last

-- ---- what an end leaves

-- behind a job's last move no scratch stands
abbrev pub JobsEndClean : Type 0 → Type 0
JobsEndClean V = (jobs : List Job) (servers : Servers V) (first c : Core State End V) (past : List Move) (run : IsRun (house jobs servers) first past c) →
    IsGrounded jobs servers first past → (index begun last : ℕ) (end : End) → slice_get c.ends index ≡ Some (Worked end begun last) →
    IsClean (world_at run (last + 1))

-- and behind a checkpoint's nobody holds the space that it looked at
pub record LeftUnheld (birth slot : ℕ) (w v : World) : Type 0 where
  pub nester : Path
  pub named : birth_at w nester ≡ Some birth
  pub unheld : IsSpaceAt w (slot ∷ nester) → holder_of (v.body (slot ∷ nester)) ≡ None

-- behind the last move of a checkpoint nobody holds the space that it looked at
abbrev pub CheckpointsRelease : Type 0 → Type 0
CheckpointsRelease V = (jobs : List Job) (servers : Servers V) (first c : Core State End V) (past : List Move) (run : IsRun (house jobs servers) first past c) →
    IsGrounded jobs servers first past → (index : ℕ) (j : Job) (slot begun last : ℕ) (end : checkpoints.End) → slice_get jobs index ≡ Some j →
    j.task ≡ Checkpoint slot → slice_get c.ends index ≡ Some (Worked (Checked end) begun last) →
    LeftUnheld j.nester slot (world_at run begun) (world_at run (last + 1))

-- ---- no image

-- a restore that has ended has ended so exactly where its source gives no image that can be made again
abbrev pub RestoresWantAnImage : Type 0 → Type 0
RestoresWantAnImage V = (jobs : List Job) (servers : Servers V) (first c : Core State End V) (past : List Move)
    (run : IsRun (house jobs servers) first past c) →
    IsStart first → (index : ℕ) (j : Job) (slot : ℕ) (pairs : List (ℕ × ℕ)) (source : Source) (end : JobEnd End) → slice_get jobs index ≡ Some j →
    j.task ≡ Restore slot pairs source → slice_get c.ends index ≡ Some end →
    (end ≡ Idle NoImage → valid_one (sourced (take index c.ends) source) ≡ None) × (valid_one (sourced (take index c.ends) source) ≡ None → end ≡ Idle NoImage)

-- the checkpoint with this place in the file is done
abbrev pub IsDone : {V : Type 0} → Core State End V → ℕ → Type 0
IsDone c job = (image : Image) × (begun : ℕ) × (last : ℕ) × (slice_get c.ends job ≡ Some (Worked (Checked (checkpoints.Done image)) begun last))

-- and where a checkpoint before it is to make its image, exactly where that one isn't done
abbrev pub RestoresWantTheirMaker : Type 0 → Type 0
RestoresWantTheirMaker V = (jobs : List Job) (servers : Servers V) (first c : Core State End V) (past : List Move)
    (run : IsRun (house jobs servers) first past c) →
    IsGrounded jobs servers first past → (from index : ℕ) (i j : Job) (saved slot : ℕ) (pairs : List (ℕ × ℕ)) (end : JobEnd End)
    → slice_get jobs from ≡ Some i →
    i.task ≡ Checkpoint saved → slice_get jobs index ≡ Some j → j.task ≡ Restore slot pairs (MadeBy from) → from < index → slice_get c.ends index ≡ Some end →
    (end ≡ Idle NoImage → IsDone c from → ⊥) × ((IsDone c from → ⊥) → end ≡ Idle NoImage)
