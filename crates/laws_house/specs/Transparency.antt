-- All together: what a run in which checkpoints and restores work is, from its first world on, for what they save and make again.
use Rattle.std.specs.Prelude.{◌≡◌, ℕ, ◌+◌, ◌*◌, ◌<◌, ◌≤◌, true, List, length, take, Option, Some, None}
use Rattle.std.specs.List.{slice_get, All}
use Rattle.fk_model.specs.declared.job.JobSpec.{JobSpec}
use Rattle.fk_model.specs.declared.job.JobSpec.TheVariants as specs_of
use Rattle.fk_model.specs.declared.limits.TheConstants.{LAST_USER_SLOT}
use Rattle.fk_model.specs.declared.moves.Move.{Move}
use Rattle.fk_model.specs.declared.stage.Stage.{Stage}
use Rattle.fk_model.specs.Places.{Path}
use Rattle.fk_model.specs.Cut.{cut, IsPlain}
use Rattle.fk_model.specs.Sound.{IsClean, are_user_pairs}
use Rattle.fk_image.specs.declared.image.image.Image.{Image}
use Rattle.fk_image.specs.Image.Picture.{picture}
use Rattle.fk_image.specs.Image.Valid.{is_valid}
use Rattle.laws_subtrees.specs.Further.Runs.{SeesNoOther}
use Rattle.laws_jobs.specs.Machines.{LiesWithin}
use Rattle.laws_checkpoint.specs.Checkpoint as checkpoints
use Rattle.laws_checkpoint.specs.Checkpoint.End.{Done}
use Rattle.laws_checkpoint.specs.Bounded.{count_of}
use Rattle.laws_restore.specs.Restore.Restore as restores
use Rattle.laws_restore.specs.Restore.Bounded as made
use Rattle.laws_restore.specs.Rooms.Rooms.{rooms_of}
use Rattle.laws_restore.specs.Rooms.Restoring.{bound_by}
use Rattle.laws_runs.specs.Cores.{JobEnd, Servers, Work, Core, IsRun, world_at}
use Rattle.laws_runs.specs.Cores.Unmoved.{NoImage}
use Rattle.laws_runs.specs.Cores.JobEnd.{Worked, Idle}
use Rattle.laws_runs.specs.Cores.Asker.{Job as Asked_by_job}
use Rattle.laws_runs.specs.Composed.{job_moves, HasWorked, IsComposed}
use Rattle.laws_runs.specs.Ended.{EndIs}
use Rattle.laws_runs.specs.Turning.{asker_at}
use Rattle.laws_runs.specs.Onwards.{between, GoesOn}
use Rattle.laws_runs.specs.Events.{core_at, IsItsEvents}
use Rattle.laws_runs.specs.Transparency.{Checkpointed, Restored as Restored_there}
use Rattle.laws_house.specs.Houses.{Job, Source, State, End, valid_one, sourced, house, jobs_of}
use Rattle.laws_house.specs.Houses.Source.{MadeBy}
use Rattle.laws_house.specs.Houses.Task.{Checkpoint, Restore}
use Rattle.laws_house.specs.Houses.State.{Checking, Restoring}
use Rattle.laws_house.specs.Houses.End.{Checked, Restored}
use Rattle.laws_house.specs.Laws.{NameUsersSlots, IsGrounded, LeftBeside, EndedAsItWas, GoesOnAgain}
use Rattle.laws_house.specs.Moves.{LeftFar, NextIsReady, EndedSo}
use Rattle.laws_house.specs.Places.{CheckpointMoves, RestoreMoves, LeftUnheld, IsDone}

-- ---- a scenario's jobs

-- as the reader of scenarios has them
abbrev pub NamesSlots : JobSpec → Type 0
NamesSlots (specs_of.Checkpoint moment nester path slot image) = slot ≤ LAST_USER_SLOT
NamesSlots (specs_of.Restore moment nester slot image bind) = (slot ≤ LAST_USER_SLOT) × (are_user_pairs bind ≡ true)

-- the jobs of a scenario name users' slots where its reader has seen that they do
abbrev pub JobsNameUsersSlots : Type 0
JobsNameUsersSlots = (specs : List JobSpec) (images : List (Option Image)) → All NamesSlots specs → NameUsersSlots (jobs_of specs images)

-- ---- checkpoints

pub record HasCheckpoints {V : Type 0} {jobs : List Job} {servers : Servers V} {first c : Core State End V} {past : List Move}
    (run : IsRun (house jobs servers) first past c) : Type 0 where
  -- how one ends, and by which moves
  pub moves : (index : ℕ) (j : Job) (slot begun last : ℕ) (end : checkpoints.End) → slice_get jobs index ≡ Some j → j.task ≡ Checkpoint slot →
      slice_get c.ends index ≡ Some (Worked (Checked end) begun last) → CheckpointMoves run slot begun last end
  pub at_once : (index : ℕ) (j : Job) (slot begun last : ℕ) → slice_get jobs index ≡ Some j → j.task ≡ Checkpoint slot →
      slice_get c.ends index ≡ Some (Worked (Checked checkpoints.Gone) begun last) → begun ≡ last
  pub ends : (index : ℕ) (j : Job) (slot begun last : ℕ) (end : checkpoints.End) → slice_get jobs index ≡ Some j → j.task ≡ Checkpoint slot →
      slice_get c.ends index ≡ Some (Worked (Checked end) begun last) → EndedAsItWas j.nester slot (world_at run begun) end
  pub releases : (index : ℕ) (j : Job) (slot begun last : ℕ) (end : checkpoints.End) → slice_get jobs index ≡ Some j → j.task ≡ Checkpoint slot →
      slice_get c.ends index ≡ Some (Worked (Checked end) begun last) → LeftUnheld j.nester slot (world_at run begun) (world_at run (last + 1))
  -- what a done one has saved
  pub saves : (index : ℕ) (j : Job) (slot begun last : ℕ) (image : Image) → slice_get jobs index ≡ Some j → j.task ≡ Checkpoint slot →
      slice_get c.ends index ≡ Some (Worked (Checked (Done image)) begun last) →
      (is_valid image ≡ true) × Checkpointed run j.nester slot begun last (picture image)
  -- and that each of its moves leaves the rest
  pub leaves : (k begun slot : ℕ) (s : checkpoints.State) (stage : Stage) (words : List ℕ) → k < length past →
      asker_at run k ≡ Asked_by_job begun (Checking slot s) stage words →
      (m : Move) × LeftBeside past k m slot (world_at run begun) (world_at run k) (world_at run (k + 1))
  -- ended or not, it makes few
  pub brief : (index begun upto : ℕ) (ends : List (JobEnd End)) (its : HasWorked run index ends begun upto) (slot d k : ℕ) →
      its.job.task ≡ Checkpoint slot → LiesWithin (cut (world_at run begun) its.nester slot) d → begun < k → k ≤ upto →
      job_moves run k ≤ job_moves run begun + 100 * ((count_of (cut (world_at run begun) its.nester slot) + 1) * (d + 1))

-- ---- restores

pub record HasRestores {V : Type 0} {jobs : List Job} {servers : Servers V} {first c : Core State End V} {past : List Move}
    (run : IsRun (house jobs servers) first past c) : Type 0 where
  -- when there is no image
  pub wants : (index : ℕ) (j : Job) (slot : ℕ) (pairs : List (ℕ × ℕ)) (source : Source) (end : JobEnd End) → slice_get jobs index ≡ Some j →
      j.task ≡ Restore slot pairs source → slice_get c.ends index ≡ Some end →
      (end ≡ Idle NoImage → valid_one (sourced (take index c.ends) source) ≡ None)
      × (valid_one (sourced (take index c.ends) source) ≡ None → end ≡ Idle NoImage)
  pub wants_maker : (from index : ℕ) (i j : Job) (saved slot : ℕ) (pairs : List (ℕ × ℕ)) (end : JobEnd End) → slice_get jobs from ≡ Some i →
      i.task ≡ Checkpoint saved → slice_get jobs index ≡ Some j → j.task ≡ Restore slot pairs (MadeBy from) → from < index → slice_get c.ends index ≡ Some end →
      (end ≡ Idle NoImage → IsDone c from → ⊥) × ((IsDone c from → ⊥) → end ≡ Idle NoImage)
  -- how one ends, and by which moves
  pub moves : (index : ℕ) (j : Job) (slot begun last : ℕ) (pairs : List (ℕ × ℕ)) (source : Source) (image : Image) (end : restores.End) →
      slice_get jobs index ≡ Some j → j.task ≡ Restore slot pairs source → valid_one (sourced (take index c.ends) source) ≡ Some image →
      slice_get c.ends index ≡ Some (Worked (Restored end) begun last) → RestoreMoves run slot pairs image begun last end
  pub at_once : (index : ℕ) (j : Job) (slot begun last : ℕ) (pairs : List (ℕ × ℕ)) (source : Source) (image : Image) → slice_get jobs index ≡ Some j →
      j.task ≡ Restore slot pairs source → valid_one (sourced (take index c.ends) source) ≡ Some image →
      slice_get c.ends index ≡ Some (Worked (Restored restores.Occupied) begun last) → begun ≡ last
  pub ends : (index : ℕ) (j : Job) (slot begun last : ℕ) (pairs : List (ℕ × ℕ)) (source : Source) (image : Image) (end : restores.End) →
      slice_get jobs index ≡ Some j → j.task ≡ Restore slot pairs source → valid_one (sourced (take index c.ends) source) ≡ Some image →
      slice_get c.ends index ≡ Some (Worked (Restored end) begun last) →
      EndedSo run j.nester slot pairs image begun last end
  -- what a done one has made
  pub makes : (index : ℕ) (j : Job) (slot begun last : ℕ) (pairs : List (ℕ × ℕ)) (source : Source) (image : Image) → slice_get jobs index ≡ Some j →
      j.task ≡ Restore slot pairs source → valid_one (sourced (take index c.ends) source) ≡ Some image →
      slice_get c.ends index ≡ Some (Worked (Restored restores.Done) begun last) →
      Restored_there run j.nester slot begun last (bound_by pairs) (picture image)
  -- and that each of its moves leaves the rest
  pub leaves : (k begun slot : ℕ) (pairs : List (ℕ × ℕ)) (image : Image) (s : restores.State) (stage : Stage) (words : List ℕ) → k < length past →
      asker_at run k ≡ Asked_by_job begun (Restoring slot pairs image s) stage words →
      (m : Move) × LeftFar past k m slot (world_at run begun) (world_at run k) (world_at run (k + 1))
  -- ended or not, it makes few
  pub brief : (index begun upto : ℕ) (ends : List (JobEnd End)) (its : HasWorked run index ends begun upto) (slot d k : ℕ) (pairs : List (ℕ × ℕ))
      (source : Source) (image : Image) → its.job.task ≡ Restore slot pairs source → valid_one (sourced ends source) ≡ Some image →
      LiesWithin (picture image) d → begun < k → k ≤ upto →
      job_moves run k ≤ job_moves run begun + 40 * ((made.count_of (rooms_of image) + 1) * (d + 1))

-- ---- the run

pub record IsTransparent {V : Type 0} {jobs : List Job} {servers : Servers V} {first c : Core State End V} {past : List Move}
    (run : IsRun (house jobs servers) first past c) : Type 0 where
  -- one legal history, through sound worlds
  pub events : IsItsEvents run
  -- in which each job worked by itself, from its first move on, ended or not
  pub composed : IsComposed run
  -- and has ended by its own moves, or without one: where it was due and had no image, or its nester was gone in that very world
  pub ended : (index : ℕ) (end : JobEnd End) → slice_get c.ends index ≡ Some end →
      (job : Job) × (slice_get jobs index ≡ Some job) × EndIs run (take index c.ends) job end
  pub checkpointed : HasCheckpoints run
  pub restored : HasRestores run
  -- no scratch is left behind a job's last move
  pub clean : (index begun last : ℕ) (end : End) → slice_get c.ends index ≡ Some (Worked end begun last) → IsClean (world_at run (last + 1))
  -- and at each moment while it works its next one is ready wherever nothing outside is held
  pub ready : (n : ℕ) → n ≤ length past → (k : Work State) → (core_at run n).work ≡ Some k →
      (j : Job) × (slice_get jobs (length (core_at run n).ends) ≡ Some j) × NextIsReady j.nester k.state (world_at run n)
  -- from any place on, and up to the first move that it sees as other, what a plain subtree sees of the history is a further run of it
  pub goes_on : (k n : ℕ) → k + n ≤ length past → (nester : Path) (slot : ℕ) → IsPlain (world_at run k) nester slot →
      SeesNoOther nester slot (world_at run k) (between run k n) → GoesOn run k n nester slot
  -- and what was saved and made again has exactly the further runs that it had, with its ports bound
  pub goes_on_again : (from to : ℕ) (i j : Job) (slot place hold release made done : ℕ) (pairs : List (ℕ × ℕ)) (image : Image) → slice_get jobs from ≡ Some i →
      i.task ≡ Checkpoint slot → slice_get c.ends from ≡ Some (Worked (Checked (Done image)) hold release) → slice_get jobs to ≡ Some j →
      j.task ≡ Restore place pairs (MadeBy from) → slice_get c.ends to ≡ Some (Worked (Restored restores.Done) made done) → from < to →
      GoesOnAgain i.nester slot (world_at run hold) j.nester place (world_at run made) (world_at run (done + 1)) (bound_by pairs)

-- all together, over any run from a first world that is grounded: its history is legal; each checkpoint and each restore ends as it should, by its own moves,
-- at their places, and leaves the rest; and what was saved and made again goes on exactly as it would have
abbrev pub RunsAreTransparent : Type 0 → Type 0
RunsAreTransparent V = (jobs : List Job) (servers : Servers V) (first c : Core State End V) (past : List Move) (run : IsRun (house jobs servers) first past c) →
    IsGrounded jobs servers first past → IsTransparent run
