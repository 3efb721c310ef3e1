-- A job's moves in a run, one by one: what they leave, when the next one is ready, and which is the last.
use Rattle.std.specs.Prelude.{◌≡◌, ℕ, true, false, ◌+◌, ◌<◌, ◌≤◌, ◌⊎◌, IsSome, List, ◌∷◌, length, take, Some}
use Rattle.std.specs.List.{slice_get}
use Rattle.fk_model.specs.declared.limits.TheConstants.{OWN_SPACE, LAST_USER_SLOT}
use Rattle.fk_model.specs.declared.moves.Ask.TheVariants as asks
use Rattle.fk_model.specs.declared.moves.Move.{Move}
use Rattle.fk_model.specs.declared.names.Who.{Who}
use Rattle.fk_model.specs.declared.stage.Stage.{Stage}
use Rattle.fk_model.specs.declared.stage.Stage.TheVariants.{SpaceRelease}
use Rattle.fk_model.specs.Places.{Path}
use Rattle.fk_model.specs.World.{World}
use Rattle.fk_model.specs.Moves.{chooses}
use Rattle.fk_model.specs.Searches.{depth}
use Rattle.fk_model.specs.Valid.{birth_at, is_fit}
use Rattle.fk_model.specs.Who.{named}
use Rattle.fk_model.specs.Cut.{is_port}
use Rattle.fk_image.specs.declared.image.image.Image.{Image}
use Rattle.fk_image.specs.Image.Picture.{picture}
use Rattle.laws_jobs.specs.Machines.{call_of, IsReadyAt, AtWork}
use Rattle.laws_jobs.specs.Machines.Head.{Stops, Asks}
use Rattle.laws_jobs.specs.Jobs.{MayBegin}
use Rattle.laws_jobs.specs.Calls.{IsUnheldOutside}
use Rattle.laws_checkpoint.specs.Checkpoint as checkpoints
use Rattle.laws_restore.specs.Restore.Restore as restores
use Rattle.laws_restore.specs.Sites.Orders.{stage_of}
use Rattle.laws_restore.specs.Sites.Orders.Order.{Pins}
use Rattle.laws_restore.specs.Restore.Ends.{EndsSo}
use Rattle.laws_restore.specs.Restore.Rest.{IsSameFar}
use Rattle.laws_restore.specs.Restore.Exact.{EndsByMiss}
use Rattle.laws_restore.specs.Rooms.Rooms.{rooms_of}
use Rattle.laws_restore.specs.Rooms.Restoring.{bound_by, restore_of}
use Rattle.laws_runs.specs.Cores.{Servers, Work, Core, asker, IsRun, world_at}
use Rattle.laws_runs.specs.Cores.JobEnd.{Worked}
use Rattle.laws_runs.specs.Cores.Asker.{Job as Asked_by_job}
use Rattle.laws_runs.specs.Composed.{AskAsUsers, IsStart}
use Rattle.laws_runs.specs.Events.{core_at}
use Rattle.laws_runs.specs.Turning.{asker_at}
use Rattle.laws_runs.specs.Placed.{WorksThere}
use Rattle.laws_house.specs.Houses.{Job, Source, State, End, machine, valid_one, sourced, house}
use Rattle.laws_house.specs.Houses.Task.{Restore}
use Rattle.laws_house.specs.Houses.State.{Checking, Restoring}
use Rattle.laws_house.specs.Houses.End.{Restored}
use Rattle.laws_house.specs.Laws.{NameUsersSlots, IsGrounded}

-- ---- what a restore's moves leave

pub record LeftFar (past : List Move) (k : ℕ) (m : Move) (slot : ℕ) (begins w v : World) : Type 0 where
  pub placed : slice_get past k ≡ Some m
  pub nester : Path
  pub named : birth_at begins nester ≡ Some m.who.space
  pub stays : birth_at w nester ≡ Some m.who.space
  pub same : IsSameFar nester slot w v

-- all but the new space and the scratch of its nester, whose porter makes the move; also where it destroys the new space again
abbrev pub RestoresLeaveTheRest : Type 0 → Type 0
RestoresLeaveTheRest V = (jobs : List Job) (servers : Servers V) (first c : Core State End V) (past : List Move)
    (run : IsRun (house jobs servers) first past c) →
    IsGrounded jobs servers first past → (k begun slot : ℕ) (pairs : List (ℕ × ℕ)) (image : Image) (s : restores.State) (stage : Stage) (words : List ℕ)
    → k < length past →
    asker_at run k ≡ Asked_by_job begun (Restoring slot pairs image s) stage words →
    (m : Move) × LeftFar past k m slot (world_at run begun) (world_at run k) (world_at run (k + 1))

-- ---- the next move of a job that is at work

abbrev pub slot_of_state : State → ℕ
slot_of_state (Checking slot s) = slot
slot_of_state (Restoring slot pairs image s) = slot

-- is ready wherever nothing outside the subtree in the slot of its nester is held
pub record NextIsReady (birth : ℕ) (state : State) (v : World) : Type 0 where
  pub nester : Path
  pub named : birth_at v nester ≡ Some birth
  pub ready : (stage : Stage) (words : List ℕ) → machine.head state ≡ Asks stage words → IsUnheldOutside (slot_of_state state ∷ nester) v
      → IsReadyAt v (call_of nester stage words)

-- at each place of a run, of the job that is at work there
abbrev pub JobsAreReady : Type 0 → Type 0
JobsAreReady V = (jobs : List Job) (servers : Servers V) (first c : Core State End V) (past : List Move) (run : IsRun (house jobs servers) first past c) →
    IsGrounded jobs servers first past → (n : ℕ) → n ≤ length past → (k : Work State) → (core_at run n).work ≡ Some k →
    (j : Job) × (slice_get jobs (length (core_at run n).ends) ≡ Some j) × NextIsReady j.nester k.state (world_at run n)

-- ---- what a job asks for

-- in a core it is fit where its porter stands, and picks nobody
abbrev pub AsksFitly : {V : Type 0} → List Job → Servers V → Core State End V → Type 0
AsksFitly jobs servers c = (who : Who) (begun : ℕ) (s : State) (stage : Stage) (words : List ℕ) →
    asker (house jobs servers) c who ≡ Asked_by_job begun s stage words →
    (is_fit c.world (named c.world who) (asks.Call stage words) ≡ true) × (chooses stage ≡ false)

-- what a job asks for in the last core of a run is fit there, and picks nobody
abbrev pub JobsAskFitly : Type 0 → Type 0
JobsAskFitly V = (jobs : List Job) (servers : Servers V) (first c : Core State End V) (past : List Move) (run : IsRun (house jobs servers) first past c) →
    AskAsUsers (house jobs servers) → NameUsersSlots jobs → IsStart first → first.world.next + length past ≤ depth → AsksFitly jobs servers c

-- ---- how a restore ends

-- from a place of the history on and before another one it led its pin to slot j of its nester, where no port stood; and so for the
-- first time
pub record MissedAt {V : Type 0} {jobs : List Job} {servers : Servers V} {first c : Core State End V} {past : List Move}
    (run : IsRun (house jobs servers) first past c) (slot : ℕ) (pairs : List (ℕ × ℕ)) (image : Image) (nester : Path) (begun from upto j : ℕ) : Type 0 where
  pub place : ℕ
  pub within : (from ≤ place) × (place < upto)
  pub state : restores.State
  pub words : List ℕ
  pub asks : asker_at run place ≡ Asked_by_job begun (Restoring slot pairs image state) (stage_of slot (Pins j)) words
  pub none : is_port ((world_at run place).body (j ∷ nester)) ≡ false
  pub earlier : (k : ℕ) → from ≤ k → k < place → (s : restores.State) (given : List ℕ) →
      asker_at run k ≡ Asked_by_job begun (Restoring slot pairs image s) (stage_of slot (Pins j)) given → ⊥

pub record EndedSo {V : Type 0} {jobs : List Job} {servers : Servers V} {first c : Core State End V} {past : List Move}
    (run : IsRun (house jobs servers) first past c) (birth slot : ℕ) (pairs : List (ℕ × ℕ)) (image : Image) (begun last : ℕ) (end : restores.End) : Type 0 where
  pub nester : Path
  pub named : birth_at (world_at run begun) nester ≡ Some birth
  -- the subtree stands there where nothing stood; the slot was taken and nothing is changed; or nothing stands there, as before
  pub so : EndsSo (world_at run begun) (world_at run (last + 1)) nester slot (bound_by pairs) (picture image) end
  -- it is told that the slot was taken exactly where it was
  pub taken : (end ≡ restores.Occupied → IsSome ((world_at run begun).body (slot ∷ nester)))
      × (IsSome ((world_at run begun).body (slot ∷ nester)) → end ≡ restores.Occupied)
  -- and of no port exactly where none stood in a slot of its nester when it first led there; then of the lowest slot of its image that
  -- is bound there. Its moves are the run's, from its first to its last
  pub state : restores.State
  pub work : AtWork (restore_of slot image pairs) nester (world_at run begun) restores.Makes (world_at run (last + 1)) state
  pub there : WorksThere run (Restoring slot pairs image) begun work
  pub missing : EndsByMiss slot (bound_by pairs) (rooms_of image) work.run end
  pub missed_at : (port : ℕ) → end ≡ restores.NoPort port → MissedAt run slot pairs image nester begun (begun + 1) (last + 1) (bound_by pairs port)

-- a restore of a run ends so: its subtree stands where nothing stood; its slot was taken, which it is told exactly there, and nothing is changed; or a port was
-- missing, which it is told exactly where it led to a slot without one, and nothing stands in the slot
abbrev pub RestoresEndSo : Type 0 → Type 0
RestoresEndSo V = (jobs : List Job) (servers : Servers V) (first c : Core State End V) (past : List Move) (run : IsRun (house jobs servers) first past c) →
    IsGrounded jobs servers first past → (index : ℕ) (j : Job) (slot begun last : ℕ) (pairs : List (ℕ × ℕ)) (source : Source) (image : Image)
    (end : restores.End) →
    slice_get jobs index ≡ Some j → j.task ≡ Restore slot pairs source → valid_one (sourced (take index c.ends) source) ≡ Some image →
    slice_get c.ends index ≡ Some (Worked (Restored end) begun last) → EndedSo run j.nester slot pairs image begun last end

-- ---- a checkpoint's last call: its release, but for one that found no space, whose only call is its hold

abbrev pub IsLastCall : ℕ → checkpoints.End → checkpoints.State → Stage → Type 0
IsLastCall slot checkpoints.Gone s stage = (s ≡ checkpoints.Holds) ⊎ (s ≡ checkpoints.Releases checkpoints.Gone)
IsLastCall slot (checkpoints.Foreign place) s stage = stage ≡ SpaceRelease OWN_SPACE slot
IsLastCall slot (checkpoints.Done image) s stage = stage ≡ SpaceRelease OWN_SPACE slot

-- a checkpoint's last call is its release, but for one that found no space
abbrev pub LastCallIsKnown : Type 0
LastCallIsKnown = (slot : ℕ) (s : checkpoints.State) (stage : Stage) (words : List ℕ) (status : ℕ) (told : List ℕ) (end : checkpoints.End) →
    checkpoints.head slot s ≡ Asks stage words → checkpoints.next slot s status told ≡ checkpoints.Over end → IsLastCall slot end s stage

-- and that one leaves all as it was
abbrev pub GoneLeavesAll : Type 0
GoneLeavesAll = (slot birth : ℕ) (w v : World) (nester : Path) (t : checkpoints.State) → slot ≤ LAST_USER_SLOT → MayBegin w nester birth →
    AtWork (checkpoints.checkpoint slot) nester w checkpoints.Holds v t → checkpoints.head slot t ≡ Stops checkpoints.Gone → v ≡ w
