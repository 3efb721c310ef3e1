-- A checkpoint that found no space has made its hold alone, and a restore that found its slot taken its first move.
use Rattle.std.proofs.Common.{◌≡◌, ℕ, ◌<◌, ◌≤◌, Bool, true, false, List, length, sym, ap, subst, ◌∙◌, ◌⊎◌, inl, inr}
use Rattle.fk_model.specs.declared.limits.TheConstants.{LAST_USER_SLOT}
use Rattle.fk_model.specs.declared.moves.Move.{Move}
use Rattle.fk_model.specs.declared.stage.Stage.{Stage}
use Rattle.fk_model.specs.Places.{Path}
use Rattle.fk_model.specs.World.{World}
use Rattle.laws_moves.specs.Savable.Savable.{IsSound}
use Rattle.laws_jobs.specs.Machines.{AtWork}
use Rattle.laws_jobs.specs.Jobs.{MayBegin}
use Rattle.laws_jobs.specs.Leads.{held_world}
use Rattle.laws_jobs.specs.Holds.{Held}
use Rattle.fk_image.specs.declared.image.image.Image.{Image}
use Rattle.fk_image.specs.Image.Picture.{picture}
use Rattle.laws_checkpoint.specs.Checkpoint as checkpoints
use Rattle.laws_checkpoint.specs.Checkpoint.{checkpoint}
use Rattle.laws_checkpoint.specs.Checkpoint.End.{Gone, Foreign, Done}
use Rattle.laws_checkpoint.proofs.Ended.{Came, came}
use Rattle.laws_checkpoint.proofs.Ended.Came.{NeverHeld, InPhase}
use Rattle.laws_checkpoint.proofs.Working.{Phase}
use Rattle.laws_checkpoint.proofs.Working.Phase.{AtFirst, AtSecond, AtThird, AtWalks, AtSeeks, AtReads, AtGathers, AtDrops, AtTwoLeft, AtOneLeft, AtReleases}
use Rattle.laws_checkpoint.proofs.Working.Phase.{AtOver}
use Rattle.laws_restore.specs.Restore.Restore as restores
use Rattle.laws_restore.specs.Restore.Roomed.{IsRoomed}
use Rattle.laws_restore.specs.Restore.Rooms.{Room}
use Rattle.laws_restore.proofs.InRestore.Coming.{Came as Has_come, came as has_come}
use Rattle.laws_restore.proofs.InRestore.Coming.Came.{Working, Dropping, Clearing, Finished, Missing, Taken}
use Rattle.laws_restore.specs.Rooms.Rooms.{rooms_of}
use Rattle.laws_restore.specs.Rooms.Restoring.{bound_by, restore_of}
use Rattle.laws_runs.specs.Cores.{Servers, Core, IsRun, world_at}
use Rattle.laws_runs.specs.Cores.Asker.{Job as Asked_by_job}
use Rattle.laws_runs.specs.Turning.{asker_at, MovesAt}
use Rattle.laws_runs.proofs.Turning.{moves_in_history}
use Rattle.laws_house.specs.Houses.{Job, State, End, machine, house}
use Rattle.laws_house.specs.Houses.State.{Checking, Restoring}
use Rattle.laws_house.specs.Houses.End.{Checked, Restored}
use Rattle.laws_house.specs.Laws.{IsGrounded}
use Rattle.laws_house.specs.Moves.{IsLastCall}
use Rattle.laws_house.specs.Places.{GoneAtOnce, OccupiedAtOnce}
use Rattle.laws_house.proofs.Parts.{works}
use Rattle.laws_house.proofs.House.{checkpoint_part, restore_part, jobs_meet_contract}
use Rattle.laws_house.proofs.Moving.{Starts, starts}
use Rattle.laws_house.proofs.Moving.Starts.{AsCheckpoint, AsRestore}
use Rattle.laws_house.proofs.Places.{checkpoints_move_so, restores_move_so}

-- ---- the states from which it may end so

abbrev finds_none : checkpoints.State → Bool
finds_none checkpoints.Holds = true
finds_none (checkpoints.Releases Gone) = true
finds_none other = false

none_found : (slot : ℕ) (s : checkpoints.State) (stage : Stage) → IsLastCall slot Gone s stage → finds_none s ≡ true
none_found slot s stage (inl e) = ap finds_none e
none_found slot s stage (inr e) = ap finds_none e

module _ (slot birth : ℕ) (w : World) (nester : Path) (low : slot ≤ LAST_USER_SLOT) (may : MayBegin w nester birth) where
  -- are none of those in which it has held
  in_phase : (held : Held nester slot w) (sound : IsSound (held_world nester slot w)) (v : World) (s : checkpoints.State)
      → Phase nester slot birth low w may held sound v s → finds_none s ≡ true → ⊥
  in_phase held sound v _ (AtFirst its tidy) e = cc
  in_phase held sound v _ (AtSecond its places tidy) e = cc
  in_phase held sound v _ (AtThird its places targets tidy) e = cc
  in_phase held sound v _ (AtWalks s its asking tidy) e = cc
  in_phase held sound v _ (AtSeeks s its asking tidy) e = cc
  in_phase held sound v _ (AtReads s closed its asking tidy) e = cc
  in_phase held sound v _ (AtGathers s closed its asking tidy) e = cc
  in_phase held sound v _ (AtDrops end verdict its scratched tidy) e = cc
  in_phase held sound v _ (AtTwoLeft end verdict its targets places tidy) e = cc
  in_phase held sound v _ (AtOneLeft end verdict its places tidy) e = cc
  in_phase held sound v _ (AtReleases Gone verdict its tidy) e = verdict
  in_phase held sound v _ (AtReleases (Foreign place) verdict its tidy) e = cc
  in_phase held sound v _ (AtReleases (Done image) verdict its tidy) e = cc
  in_phase held sound v _ (AtOver end verdict same unheld tidy) e = cc

  later : (v : World) (s : checkpoints.State) → Came slot birth w nester low may v s → finds_none s ≡ true → ⊥
  later v s (NeverHeld none same over) e = let off = sym (ap finds_none over) ∙ e in cc
  later v s (InPhase held sound phase) e = in_phase held sound v s phase e

-- and a restore that has made its first move never makes it again
module _ (slot birth : ℕ) (bind : ℕ → ℕ) (c : World) (rooms : List Room) (w : World) (nester : Path) (low : slot ≤ LAST_USER_SLOT) (its : IsRoomed bind c rooms)
    (may : MayBegin w nester birth) where
  makes_no_more : (v : World) (s : restores.State) → Has_come slot birth bind c rooms w nester low its may v s → s ≡ restores.Makes → ⊥
  makes_no_more _ _ (Working os g v empty shows alone can suits safe tidied is history) e = cc
  makes_no_more _ _ (Dropping o os port g v empty shows alone left tidied) e = cc
  makes_no_more _ _ (Clearing xs more port v empty emptied many alone tidied) e = cc
  makes_no_more _ _ (Finished v empty plain same unheld clean) e = cc
  makes_no_more _ _ (Missing port v empty none clean) e = cc
  makes_no_more _ _ (Taken v there same) e = cc

same_check : (slot other : ℕ) (s t : checkpoints.State) → Checking slot s ≡ Checking other t → s ≡ t
same_check slot other s t e = cc

-- ---- over a run

module _ {V : Type 0} (jobs : List Job) (servers : Servers V) (first c : Core State End V) (past : List Move) (run : IsRun (house jobs servers) first past c)
    (grounded : IsGrounded jobs servers first past) where
  at_once : (slot begun last : ℕ) (s : checkpoints.State) (stage : Stage) (words : List ℕ) → last < length past
      → asker_at run last ≡ Asked_by_job begun (Checking slot s) stage words → finds_none s ≡ true → begun ≡ last
  at_once slot begun last s stage words low e none =
      let its = moves_in_history (house jobs servers) first c past run grounded.users
      (jobs_meet_contract jobs servers grounded.slots) grounded.start grounded.few last begun (Checking slot s) stage words low e in
      by its (starts its.job its.ends its.start (grounded.slots its.index its.job its.its) its.starts) its.at
    where
      by : (its : MovesAt run last begun (Checking slot s) stage words) → Starts its.job its.start → ((begun ≡ last) × (Checking slot s ≡ its.start))
          ⊎ AtWork machine its.nester (world_at run begun) its.start (world_at run last) (Checking slot s) → begun ≡ last
      by its begins (inl now) = now.0
      by its (AsCheckpoint other user start) (inr work) =
          let there = subst (λ x. AtWork machine its.nester (world_at run begun) x (world_at run last) (Checking slot s)) start work in
          let part = works (checkpoint other) machine (Checking other) Checked its.nester (checkpoint_part other) (world_at run begun) checkpoints.Holds
          (world_at run last) (Checking slot s) there in
          absurd (later other its.job.nester (world_at run begun) its.nester user its.may (world_at run last) part.state
          (came other its.job.nester (world_at run begun) its.nester user its.may (world_at run last) part.state part.part)
          (ap finds_none (sym (same_check slot other s part.state part.is)) ∙ none))
      by its (AsRestore other given seen user roomed start) (inr work) =
          let there = subst (λ x. AtWork machine its.nester (world_at run begun) x (world_at run last) (Checking slot s)) start work in
          let part = works (restore_of other seen given) machine (Restoring other given seen) Restored its.nester (restore_part other given seen)
          (world_at run begun) restores.Makes (world_at run last) (Checking slot s) there in
          let apart = part.is in
          cc

  same_make : (slot other : ℕ) (pairs given : List (ℕ × ℕ)) (image seen : Image) (s t : restores.State)
      → Restoring slot pairs image s ≡ Restoring other given seen t → s ≡ t
  same_make slot other pairs given image seen s t e = cc

  made_at_once : (slot begun last : ℕ) (pairs : List (ℕ × ℕ)) (image : Image) (s : restores.State) (stage : Stage) (words : List ℕ) → last < length past
      → asker_at run last ≡ Asked_by_job begun (Restoring slot pairs image s) stage words → s ≡ restores.Makes → begun ≡ last
  made_at_once slot begun last pairs image s stage words low e makes =
      let its = moves_in_history (house jobs servers) first c past run grounded.users
      (jobs_meet_contract jobs servers grounded.slots) grounded.start grounded.few last begun now stage words low e in
      by its (starts its.job its.ends its.start (grounded.slots its.index its.job its.its) its.starts) its.at
    where
      now : State
      now = Restoring slot pairs image s

      by : (its : MovesAt run last begun now stage words) → Starts its.job its.start → ((begun ≡ last) × (now ≡ its.start))
          ⊎ AtWork machine its.nester (world_at run begun) its.start (world_at run last) now → begun ≡ last
      by its begins (inl first_one) = first_one.0
      by its (AsCheckpoint other user start) (inr work) =
          let there = subst (λ x. AtWork machine its.nester (world_at run begun) x (world_at run last) now) start work in
          let part = works (checkpoint other) machine (Checking other) Checked its.nester (checkpoint_part other) (world_at run begun) checkpoints.Holds
          (world_at run last) now there in
          let apart = part.is in
          cc
      by its (AsRestore other given seen user roomed start) (inr work) =
          let there = subst (λ x. AtWork machine its.nester (world_at run begun) x (world_at run last) now) start work in
          let part = works (restore_of other seen given) machine (Restoring other given seen) Restored its.nester (restore_part other given seen)
          (world_at run begun) restores.Makes (world_at run last) now there in
          absurd (makes_no_more other its.job.nester (bound_by given) (picture seen) (rooms_of seen) (world_at run begun) its.nester user roomed its.may
          (world_at run last) part.state
          (has_come other its.job.nester (bound_by given) (picture seen) (rooms_of seen) (world_at run begun) its.nester user roomed its.may
          (world_at run last) part.state part.part)
          (sym (same_make slot other pairs given image seen s part.state part.is) ∙ makes))

pub gone_at_once : {V : Type 0} → GoneAtOnce V
gone_at_once jobs servers first c past run grounded index j slot begun last its is ended =
    let moves = checkpoints_move_so jobs servers first c past run grounded.start index j slot begun last Gone its is ended in
    at_once jobs servers first c past run grounded slot begun last moves.state moves.stage moves.words moves.order.1 moves.ends
    (none_found slot moves.state moves.stage moves.last_call)

pub occupied_at_once : {V : Type 0} → OccupiedAtOnce V
occupied_at_once jobs servers first c past run grounded index j slot begun last pairs source image its is from ended =
    let moves = restores_move_so jobs servers first c past run grounded.start index j slot begun last pairs source image restores.Occupied its is from ended in
    made_at_once jobs servers first c past run grounded slot begun last pairs image moves.state moves.stage moves.words moves.order.1 moves.ends moves.last_call
