-- What a whole run is for checkpoints and restores whose own laws stand.
use Rattle.std.specs.Prelude.{◌≡◌, ℕ, ◌+◌, ◌≤◌, ◌<◌, Bool, true, List, length, take, Option, Some}
use Rattle.std.specs.List.{slice_get}
use Rattle.fk_model.specs.declared.moves.Move.{Move}
use Rattle.fk_model.specs.Places.{Path}
use Rattle.fk_model.specs.World.{World}
use Rattle.fk_model.specs.Searches.{depth}
use Rattle.fk_model.specs.Valid.{birth_at}
use Rattle.fk_model.specs.Cut.{cut, IsPlain}
use Rattle.fk_model.specs.Closed.{IsClosed}
use Rattle.fk_model.specs.Further.{Onward}
use Rattle.fk_model.specs.Rebind.{rebound}
use Rattle.fk_model.specs.Sound.{IsUncut}
use Rattle.laws_subtrees.specs.Further.ClosedLaws.{IsUsersAlone}
use Rattle.laws_jobs.specs.Jobs.{Saves, Restores}
use Rattle.laws_runs.specs.Cores.{JobEnd, House, Core, IsRun, world_at}
use Rattle.laws_runs.specs.Cores.JobEnd.{Worked}
use Rattle.laws_runs.specs.Composed.{AskAsUsers, JobsMeetContract, IsStart}
use Rattle.laws_runs.specs.Onwards.{GoesOnAs}

-- ---- the clauses of transparency

-- a checkpoint that is done, made at a place of the history
pub record Checkpointed {J S A V : Type 0} {h : House J S A V} {first c : Core S A V} {past : List Move} (run : IsRun h first past c)
    (birth slot begun last : ℕ) (saved : World) : Type 0 where
  pub nester : Path
  pub named : birth_at (world_at run begun) nester ≡ Some birth
  pub order : (begun ≤ last) × (last < length past)
  pub closed : IsClosed (world_at run begun) nester slot
  pub picture : saved ≡ cut (world_at run begun) nester slot
  pub same : (k : ℕ) → begun ≤ k → k ≤ last + 1 → cut (world_at run k) nester slot ≡ cut (world_at run begun) nester slot

-- a checkpoint that is done gives the picture of a closed subtree as it was at its first move, and that stays the same up to after its last one
abbrev pub CheckpointsHold : Type 0 → Type 0 → Type 0 → Type 0 → Type 0
CheckpointsHold J S A V = (h : House J S A V) (first c : Core S A V) (past : List Move) (run : IsRun h first past c) →
    AskAsUsers h → JobsMeetContract h → IsStart first → first.world.next + length past ≤ depth →
    (index : ℕ) (job : J) (slot : ℕ) (picture : A → Option World) (end : A) (begun last : ℕ) (saved : World) → slice_get h.jobs index ≡ Some job →
    ((nester : Path) (ends : List (JobEnd A)) (s : S) → birth_at (world_at run begun) nester ≡ Some (h.nester job) → h.begins job ends ≡ Some s →
    Saves h.machine (h.nester job) slot picture (world_at run begun) nester s) →
    slice_get c.ends index ≡ Some (Worked end begun last) → picture end ≡ Some saved → Checkpointed run (h.nester job) slot begun last saved

-- a restore that is done, made at a place of the history: behind its last move the subtree there is plain, and is what was saved, with its ports
-- bound
pub record Restored {J S A V : Type 0} {h : House J S A V} {first c : Core S A V} {past : List Move} (run : IsRun h first past c)
    (birth slot begun last : ℕ) (bind : ℕ → ℕ) (saved : World) : Type 0 where
  pub nester : Path
  pub named : birth_at (world_at run begun) nester ≡ Some birth
  pub plain : IsPlain (world_at run (last + 1)) nester slot
  pub cut_there : cut (world_at run (last + 1)) nester slot ≡ rebound bind saved

-- a restore that is done leaves a plain subtree whose cut is the picture, its ports bound
abbrev pub RestoresHold : Type 0 → Type 0 → Type 0 → Type 0 → Type 0
RestoresHold J S A V = (h : House J S A V) (first c : Core S A V) (past : List Move) (run : IsRun h first past c) →
    AskAsUsers h → JobsMeetContract h → IsStart first → first.world.next + length past ≤ depth →
    (index : ℕ) (job : J) (slot : ℕ) (bind : ℕ → ℕ) (saved : World) (is_done : A → Bool) (end : A) (begun last : ℕ) → slice_get h.jobs index ≡ Some job →
    ((nester : Path) (s : S) → birth_at (world_at run begun) nester ≡ Some (h.nester job) → h.begins job (take index c.ends) ≡ Some s →
    Restores h.machine (h.nester job) slot bind saved is_done (world_at run begun) nester s) →
    slice_get c.ends index ≡ Some (Worked end begun last) → is_done end ≡ true → Restored run (h.nester job) slot begun last bind saved

-- what was restored has exactly the further runs of what was saved, with its ports bound
abbrev pub RestoredGoOn : Type 0 → Type 0 → Type 0 → Type 0 → Type 0
RestoredGoOn J S A V = (h : House J S A V) (first c : Core S A V) (past : List Move) (run : IsRun h first past c) →
    AskAsUsers h → JobsMeetContract h → IsStart first → first.world.next + length past ≤ depth →
    (birth slot begun last : ℕ) (saved : World) (from : Checkpointed run birth slot begun last saved) →
    IsUncut (world_at run begun) → IsUsersAlone (world_at run begun) from.nester slot →
    (other place made done : ℕ) (bind : ℕ → ℕ) (to : Restored run other place made done bind saved) (ms : List Onward) →
    GoesOnAs bind (cut (world_at run begun) from.nester slot) (cut (world_at run (done + 1)) to.nester place) ms
