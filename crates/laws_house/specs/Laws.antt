-- What a run in which checkpoints and restores work is for the subtrees that they save and make again.
use Rattle.std.specs.Prelude.{◌≡◌, ℕ, ◌+◌, ◌*◌, ◌<◌, ◌≤◌, true, List, length, take, Some, ◌∷◌, ◌++◌, false}
use Rattle.std.specs.List.{slice_get}
use Rattle.fk_model.specs.declared.limits.TheConstants.{LAST_USER_SLOT}
use Rattle.fk_model.specs.declared.moves.Move.{Move}
use Rattle.fk_model.specs.declared.stage.Stage.{Stage}
use Rattle.fk_model.specs.Objects.{holds, is_served}
use Rattle.fk_model.specs.StateRows.{is_native}
use Rattle.fk_model.specs.Places.{Path}
use Rattle.fk_model.specs.World.{World}
use Rattle.fk_model.specs.Searches.{depth}
use Rattle.fk_model.specs.Cut.{cut}
use Rattle.fk_model.specs.Further.{Onward}
use Rattle.fk_model.specs.Valid.{birth_at}
use Rattle.fk_model.specs.Sound.{IsUncut, are_user_pairs}
use Rattle.fk_image.specs.declared.image.image.Image.{Image}
use Rattle.fk_image.specs.Image.Picture.{picture}
use Rattle.fk_image.specs.Image.Valid.{is_valid}
use Rattle.laws_jobs.specs.Machines.{LiesWithin}
use Rattle.laws_checkpoint.specs.Checkpoint as checkpoints
use Rattle.laws_checkpoint.specs.Checkpoint.End.{Done}
use Rattle.laws_checkpoint.specs.Bounded.{count_of}
use Rattle.laws_checkpoint.specs.Laws.{EndsAsItWas, IsSameBeside}
use Rattle.laws_restore.specs.Restore.Restore as restores
use Rattle.laws_restore.specs.Restore.Restore.State.{Makes}
use Rattle.laws_restore.specs.Restore.Bounded as made
use Rattle.laws_restore.specs.Rooms.Rooms.{rooms_of}
use Rattle.laws_restore.specs.Rooms.Restoring.{bound_by}
use Rattle.laws_runs.specs.Cores.{JobEnd, Servers, Core, IsRun, world_at}
use Rattle.laws_runs.specs.Cores.JobEnd.{Worked}
use Rattle.laws_runs.specs.Cores.Asker.{Job as Asked_by_job}
use Rattle.laws_runs.specs.Composed.{AskAsUsers, JobsMeetContract, IsStart, job_moves, HasWorked}
use Rattle.laws_runs.specs.Turning.{asker_at}
use Rattle.laws_runs.specs.Onwards.{GoesOnAs}
use Rattle.laws_runs.specs.Transparency.{Checkpointed, Restored as Restored_there}
use Rattle.laws_house.specs.Houses.{Job, Task, Source, State, End, valid_one, sourced, house}
use Rattle.laws_house.specs.Houses.Source.{MadeBy}
use Rattle.laws_house.specs.Houses.Task.{Checkpoint, Restore}
use Rattle.laws_house.specs.Houses.State.{Checking}
use Rattle.laws_house.specs.Houses.End.{Checked, Restored}

-- a job names slots of users, as the reader of scenarios asks
abbrev pub NamesUsersSlots : Task → Type 0
NamesUsersSlots (Checkpoint slot) = slot ≤ LAST_USER_SLOT
NamesUsersSlots (Restore slot pairs source) = (slot ≤ LAST_USER_SLOT) × (are_user_pairs pairs ≡ true)

-- jobs work in users' slots of their nesters, and bind users' slots
abbrev pub NameUsersSlots : List Job → Type 0
NameUsersSlots jobs = (index : ℕ) (j : Job) → slice_get jobs index ≡ Some j → NamesUsersSlots j.task

-- jobs in users' slots meet their contract, whatever native servers there are
abbrev pub JobsMeetTheirContract : Type 0 → Type 0
JobsMeetTheirContract V = (jobs : List Job) (servers : Servers V) → NameUsersSlots jobs → JobsMeetContract (house jobs servers)

-- no porter and no served port lies beneath what stands in the slot of a nester
pub record IsUnserved (w : World) (nester : Path) (slot : ℕ) : Type 0 where
  pub no_porter : (k : ℕ) (q : Path) → holds is_native (w.body (k ∷ (q ++ slot ∷ nester))) ≡ false
  pub unserved : (k : ℕ) (q : Path) → holds is_served (w.body (k ∷ (q ++ slot ∷ nester))) ≡ false

-- in each subtree that a job is to save, as the reader of scenarios asks of the first world
abbrev pub SaveUsersAlone : List Job → World → Type 0
SaveUsersAlone jobs w = (index : ℕ) (j : Job) (slot : ℕ) → slice_get jobs index ≡ Some j → j.task ≡ Checkpoint slot →
    (nester : Path) → birth_at w nester ≡ Some j.nester → IsUnserved w nester slot

-- what is supposed of a run: of its native servers, its jobs, its first core, and how many moves it has
pub record IsGrounded {V : Type 0} (jobs : List Job) (servers : Servers V) (first : Core State End V) (past : List Move) : Type 0 where
  pub users : AskAsUsers (house jobs servers)
  pub slots : NameUsersSlots jobs
  pub start : IsStart first
  pub few : first.world.next + length past ≤ depth
  -- it is nobody's cut, and users alone lie in what is to be saved
  pub uncut : IsUncut first.world
  pub alone : SaveUsersAlone jobs first.world

-- each of its worlds is nobody's cut
abbrev pub RunStaysUncut : Type 0 → Type 0
RunStaysUncut V = (jobs : List Job) (servers : Servers V) (first c : Core State End V) (past : List Move) (run : IsRun (house jobs servers) first past c) →
    IsUncut first.world → (k : ℕ) → IsUncut (world_at run k)

-- ---- how many moves a job makes in a history, ended or not

-- ended or not, a checkpoint of a run has made at most 100 (n + 1) (d + 1) of its moves, where its subtree had n bodies and pages, none deeper than d
abbrev pub CheckpointsAreBrief : Type 0 → Type 0
CheckpointsAreBrief V = (jobs : List Job) (servers : Servers V) (first c : Core State End V) (past : List Move)
    (run : IsRun (house jobs servers) first past c) →
    IsGrounded jobs servers first past → (index begun upto : ℕ) (ends : List (JobEnd End)) (its : HasWorked run index ends begun upto) (slot d k : ℕ) →
    its.job.task ≡ Checkpoint slot → LiesWithin (cut (world_at run begun) its.nester slot) d → begun < k → k ≤ upto →
    job_moves run k ≤ job_moves run begun + 100 * ((count_of (cut (world_at run begun) its.nester slot) + 1) * (d + 1))

-- ended or not, a restore of a run has made at most 40 (n + 1) (d + 1) of its moves, where its image has n bodies and pages, none deeper than d
abbrev pub RestoresAreBrief : Type 0 → Type 0
RestoresAreBrief V = (jobs : List Job) (servers : Servers V) (first c : Core State End V) (past : List Move) (run : IsRun (house jobs servers) first past c) →
    IsGrounded jobs servers first past → (index begun upto : ℕ) (ends : List (JobEnd End)) (its : HasWorked run index ends begun upto) (slot d k : ℕ)
    (pairs : List (ℕ × ℕ)) (source : Source) (image : Image) → its.job.task ≡ Restore slot pairs source → valid_one (sourced ends source) ≡ Some image →
    LiesWithin (picture image) d → begun < k → k ≤ upto →
    job_moves run k ≤ job_moves run begun + 40 * ((made.count_of (rooms_of image) + 1) * (d + 1))

-- ---- what a job's moves leave

-- each move of a checkpoint changes nothing but the scratch of its nester, whose porter makes it, and who holds the subtree's root
pub record LeftBeside (past : List Move) (k : ℕ) (m : Move) (slot : ℕ) (begins w v : World) : Type 0 where
  pub placed : slice_get past k ≡ Some m
  pub nester : Path
  pub named : birth_at begins nester ≡ Some m.who.space
  pub stays : birth_at w nester ≡ Some m.who.space
  pub same : IsSameBeside nester slot w v

-- each move of a checkpoint leaves every page, and every object but its nester's scratch and who holds the subtree's root
abbrev pub CheckpointsLeaveTheRest : Type 0 → Type 0
CheckpointsLeaveTheRest V = (jobs : List Job) (servers : Servers V) (first c : Core State End V) (past : List Move)
    (run : IsRun (house jobs servers) first past c) →
    IsGrounded jobs servers first past → (k begun slot : ℕ) (s : checkpoints.State) (stage : Stage) (words : List ℕ) → k < length past →
    asker_at run k ≡ Asked_by_job begun (Checking slot s) stage words →
    (m : Move) × LeftBeside past k m slot (world_at run begun) (world_at run k) (world_at run (k + 1))

-- ---- how a checkpoint ends, and what a done one has saved

-- no space in the slot, the first place where the subtree isn't closed, or closed, as it was at its first move
pub record EndedAsItWas (birth slot : ℕ) (w : World) (end : checkpoints.End) : Type 0 where
  pub nester : Path
  pub named : birth_at w nester ≡ Some birth
  pub was : EndsAsItWas w nester slot end

-- a checkpoint of a run ends as its subtree was at its first move: no space in the slot; not closed, and the first place that says so; or closed
abbrev pub CheckpointsEndAsItWas : Type 0 → Type 0
CheckpointsEndAsItWas V = (jobs : List Job) (servers : Servers V) (first c : Core State End V) (past : List Move)
    (run : IsRun (house jobs servers) first past c) →
    IsGrounded jobs servers first past → (index : ℕ) (j : Job) (slot begun last : ℕ) (end : checkpoints.End) → slice_get jobs index ≡ Some j →
    j.task ≡ Checkpoint slot → slice_get c.ends index ≡ Some (Worked (Checked end) begun last) → EndedAsItWas j.nester slot (world_at run begun) end

-- one that is done began at a closed subtree; its image is valid, and its picture is that subtree's cut, which was the same from its first move to behind its
-- last
abbrev pub CheckpointsSave : Type 0 → Type 0
CheckpointsSave V = (jobs : List Job) (servers : Servers V) (first c : Core State End V) (past : List Move) (run : IsRun (house jobs servers) first past c) →
    IsGrounded jobs servers first past → (index : ℕ) (j : Job) (slot begun last : ℕ) (image : Image) → slice_get jobs index ≡ Some j →
    j.task ≡ Checkpoint slot → slice_get c.ends index ≡ Some (Worked (Checked (Done image)) begun last) →
    (is_valid image ≡ true) × Checkpointed run j.nester slot begun last (picture image)

-- ---- what a done restore has made

-- a restore that is done leaves a plain subtree, which is its image's picture with its ports bound
abbrev pub RestoresMake : Type 0 → Type 0
RestoresMake V = (jobs : List Job) (servers : Servers V) (first c : Core State End V) (past : List Move) (run : IsRun (house jobs servers) first past c) →
    IsGrounded jobs servers first past → (index : ℕ) (j : Job) (slot begun last : ℕ) (pairs : List (ℕ × ℕ)) (source : Source) (image : Image) →
    slice_get jobs index ≡ Some j → j.task ≡ Restore slot pairs source → valid_one (sourced (take index c.ends) source) ≡ Some image →
    slice_get c.ends index ≡ Some (Worked (Restored restores.Done) begun last) →
    Restored_there run j.nester slot begun last (bound_by pairs) (picture image)

-- ---- the two together: what a checkpoint of the run has saved and a restore of the run has made again

-- the subtree in a slot of one nester in a world, and that in a slot of another one in a later world, where this nester stood in a
-- world before it: what is the latter's is exactly what was the former's, its ports bound
pub record GoesOnAgain (birth slot : ℕ) (w : World) (other place : ℕ) (before v : World) (bind : ℕ → ℕ) : Type 0 where
  pub nester : Path
  pub named : birth_at w nester ≡ Some birth
  pub there : Path
  pub named_there : birth_at before there ≡ Some other
  pub further : (ms : List Onward) → GoesOnAs bind (cut w nester slot) (cut v there place) ms

-- has exactly the further runs that it had, with its ports bound
abbrev pub SavedGoesOn : Type 0 → Type 0
SavedGoesOn V = (jobs : List Job) (servers : Servers V) (first c : Core State End V) (past : List Move) (run : IsRun (house jobs servers) first past c) →
    IsGrounded jobs servers first past → (from to : ℕ) (i j : Job) (slot place hold release made done : ℕ) (pairs : List (ℕ × ℕ)) (image : Image) →
    slice_get jobs from ≡ Some i → i.task ≡ Checkpoint slot → slice_get c.ends from ≡ Some (Worked (Checked (Done image)) hold release) →
    slice_get jobs to ≡ Some j → j.task ≡ Restore place pairs (MadeBy from) → slice_get c.ends to ≡ Some (Worked (Restored restores.Done) made done)
    → from < to →
    GoesOnAgain i.nester slot (world_at run hold) j.nester place (world_at run made) (world_at run (done + 1)) (bound_by pairs)
