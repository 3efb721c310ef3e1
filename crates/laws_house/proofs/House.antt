-- The house's laws, from those of its parts.
use Rattle.std.proofs.Common.{◌≡◌, ℕ, zero, suc, ◌+◌, ◌*◌, ◌<◌, ◌≤◌, Bool, true, false, cond, nat_le, List, [], ◌∷◌, length, take, Option, Some, None}
use Rattle.std.proofs.Common.{option_map, refl, sym, ap, subst, arith, ◌∙◌, ◌⊎◌, inl, inr, ◌++◌, not, ◌&&◌, ◌==◌, is_some, if◌then◌else◌}
use Rattle.std.specs.List.{slice_get}
use Rattle.fk_model.specs.declared.limits.TheConstants.{OWN_SPACE, LAST_USER_SLOT, LAST_SCRATCH_SLOT, LAST_PORTER_SLOT}
use Rattle.fk_model.specs.declared.names.Kind.TheVariants as kinds
use Rattle.fk_model.specs.Objects.{Body, kind_of, holds, is_served, reference_of}
use Rattle.fk_model.specs.Objects.Body.{Mutex, Cond, Mapping, Region, Port, Portset, Space, Thread_of, Reference}
use Rattle.fk_model.specs.StateRows.{is_native}
use Rattle.fk_model.specs.Whole.{stands_in}
use Rattle.std.proofs.lemmas.Bool.{and_parts, eqb-true}
use Rattle.fk_model.specs.declared.moves.Move.{Move}
use Rattle.fk_model.specs.declared.stage.Stage.{Stage}
use Rattle.fk_model.specs.declared.stage.Stage.TheVariants.{SpaceHold}
use Rattle.fk_model.specs.Places.{Path}
use Rattle.fk_model.specs.World.{World}
use Rattle.fk_model.specs.Cut.{cut}
use Rattle.fk_model.specs.Runs.{after}
use Rattle.fk_model.specs.Valid.{kind_there, birth_at}
use Rattle.fk_image.specs.declared.image.image.Image.{Image}
use Rattle.fk_image.specs.Image.Picture.{picture}
use Rattle.fk_image.specs.Image.Valid.{is_valid}
use Rattle.laws_moves.specs.Savable.Savable.{IsSound}
use Rattle.laws_jobs.specs.Machines.{no_words, call_of, IsReadyAt, AtWork, LiesWithin}
use Rattle.laws_jobs.specs.Machines.Head.{Stops, Asks}
use Rattle.laws_jobs.specs.Jobs.{MayBegin, MeetsContract, Saves, Restores}
use Rattle.laws_jobs.specs.Holds.{hold, IsSpaceAt}
use Rattle.laws_jobs.proofs.Goings.{called}
use Rattle.laws_jobs.proofs.Weaving.{first_sound}
use Rattle.laws_subtrees.specs.Further.ClosedLaws.{IsUsersAlone}
use Rattle.laws_checkpoint.specs.Checkpoint as checkpoints
use Rattle.laws_checkpoint.specs.Checkpoint.{checkpoint}
use Rattle.laws_checkpoint.specs.Checkpoint.End.{Done, Gone, Foreign}
use Rattle.laws_checkpoint.specs.Checkpoint.State.{Holds}
use Rattle.laws_checkpoint.specs.Bounded.{count_of}
use Rattle.laws_checkpoint.specs.Laws.{MaySave, IsSameBeside, picture_of}
use Rattle.laws_checkpoint.proofs.Bounds.{checkpoint_is_bounded}
use Rattle.laws_checkpoint.proofs.Ended.{checkpoint_meets_contract, checkpoint_ends_as_it_was}
use Rattle.laws_checkpoint.proofs.Saved.{checkpoint_saves, checkpoint_images_subtree}
use Rattle.laws_checkpoint.proofs.Calling.{checkpoint_leaves_rest}
use Rattle.laws_restore.specs.Restore.Restore as restores
use Rattle.laws_restore.specs.Restore.Restore.State.{Makes}
use Rattle.laws_restore.specs.Restore.Bounded as made
use Rattle.laws_restore.specs.Rooms.Rooms.{rooms_of}
use Rattle.laws_restore.specs.Rooms.Restoring.{bound_by, restore_of}
use Rattle.laws_restore.proofs.InRestore.Owing.{meets_contract as restore_meets_contract}
use Rattle.laws_restore.proofs.InRooms.Roomed.{valid_is_roomed}
use Rattle.laws_restore.proofs.InRooms.Restored.{pairs_bind, image_is_restored, image_restore_is_bounded}
use Rattle.laws_runs.specs.Cores.{Core, IsRun, JobEnd, Servers, world_at}
use Rattle.laws_runs.specs.Cores.JobEnd.{Worked}
use Rattle.laws_runs.specs.Cores.Asker.{Job as Asked_by_job}
use Rattle.laws_runs.specs.Composed.{IsComposed, job_moves, WorksSo, HasWorked, HasEnded}
use Rattle.laws_runs.specs.Turning.{asker_at, MovesAt}
use Rattle.laws_runs.proofs.Composing.{composed}
use Rattle.laws_runs.proofs.Turning.{moves_in_history}
use Rattle.laws_runs.proofs.Transparency.{checkpoints_hold, restores_hold, restored_go_on}
use Rattle.laws_house.specs.Houses.{Job, Task, Source, State, End, machine, image_made, sourced, valid_one, begins_by, house}
use Rattle.laws_house.specs.Houses.Source.{Given, MadeBy}
use Rattle.laws_house.specs.Houses.Task.{Checkpoint, Restore}
use Rattle.laws_house.specs.Houses.State.{Checking, Restoring}
use Rattle.laws_house.specs.Houses.End.{Checked, Restored}
use Rattle.laws_house.specs.Parts.{IsPart}
use Rattle.laws_house.specs.Laws.{NamesUsersSlots, IsUnserved, JobsMeetTheirContract, RunStaysUncut, IsGrounded, CheckpointsAreBrief, RestoresAreBrief}
use Rattle.laws_house.specs.Laws.{LeftBeside}
use Rattle.laws_house.specs.Laws.{CheckpointsLeaveTheRest, CheckpointsEndAsItWas, CheckpointsSave, RestoresMake, SavedGoesOn}
use Rattle.laws_house.proofs.Parts.{asks_part, stops_part, works, parts_meet_contract}
use Rattle.laws_house.proofs.Kept.{uncut_at, Stood, stood_at}

-- ---- the two parts

pub checkpoint_part : (slot : ℕ) → IsPart (checkpoint slot) machine (Checking slot) Checked
checkpoint_part slot = record { head = λ s. refl; next = λ s status words. refl }

pub restore_part : (slot : ℕ) (pairs : List (ℕ × ℕ)) (image : Image) → IsPart (restore_of slot image pairs) machine (Restoring slot pairs image) Restored
restore_part slot pairs image = record { head = λ s. refl; next = λ s status words. refl }

-- ---- how a job starts

pub same_state : (a b : State) → Some a ≡ Some b → a ≡ b
same_state a b e = cc

pub starts_checkpoint : (task : Task) (ends : List (JobEnd End)) (slot : ℕ) (s : State) → task ≡ Checkpoint slot → begins_by task ends ≡ Some s
    → s ≡ Checking slot Holds
starts_checkpoint task ends slot s is starts = same_state s (Checking slot Holds) (sym starts ∙ ap (λ t. begins_by t ends) is)

pub valid_is : (o : Option Image) (image : Image) → valid_one o ≡ Some image → is_valid image ≡ true
valid_is None image e = cc
valid_is (Some other) image e = by (is_valid other) refl e
  where
    by : (t : Bool) → is_valid other ≡ t → cond t (Some other) None ≡ Some image → is_valid image ≡ true
    by true is e = let same : other ≡ image = cc in ap is_valid (sym same) ∙ is
    by false is e = cc

pub starts_restore : (task : Task) (ends : List (JobEnd End)) (slot : ℕ) (pairs : List (ℕ × ℕ)) (source : Source) (image : Image) (s : State)
    → task ≡ Restore slot pairs source →
    valid_one (sourced ends source) ≡ Some image → begins_by task ends ≡ Some s → s ≡ Restoring slot pairs image Makes
starts_restore task ends slot pairs source image s is its starts =
    same_state s (Restoring slot pairs image Makes)
    (sym starts ∙ (ap (λ t. begins_by t ends) is ∙ ap (λ (o : Option Image). option_map (λ image. Restoring slot pairs image Makes) o) its))

-- ---- what is saved and made, by the whole

abbrev pub pictured : End → Option World
pictured (Checked end) = picture_of end
pictured (Restored end) = None

abbrev pub is_made : End → Bool
is_made (Checked end) = false
is_made (Restored end) = restores.is_done end

saves_whole : (slot birth : ℕ) (w : World) (nester : Path) → Saves (checkpoint slot) birth slot picture_of w nester Holds
    → Saves machine birth slot pictured w nester (Checking slot Holds)
saves_whole slot birth w nester law = record {
  keeps = λ v t may work. (let its = works (checkpoint slot) machine (Checking slot) Checked nester (checkpoint_part slot) w Holds v t work in
      law.keeps v its.state may its.part);
  gives = λ v t end c may work stopped done. (let its = works (checkpoint slot) machine (Checking slot) Checked nester
      (checkpoint_part slot) w Holds v t work in
      let stop = stops_part (checkpoint slot) machine (Checking slot) Checked nester (checkpoint_part slot) t its.state end its.is stopped in
      law.gives v its.state stop.0 c may its.part stop.1 (ap pictured stop.2 ∙ done));
}

restores_whole : (slot birth : ℕ) (image : Image) (pairs : List (ℕ × ℕ)) (w : World) (nester : Path)
    → Restores (restore_of slot image pairs) birth slot (bound_by pairs) (picture image) restores.is_done w nester Makes →
    Restores machine birth slot (bound_by pairs) (picture image) is_made w nester (Restoring slot pairs image Makes)
restores_whole slot birth image pairs w nester law = record {
  gives = λ v t end may work stopped done.
      (let its = works (restore_of slot image pairs) machine (Restoring slot pairs image) Restored nester (restore_part slot pairs image) w Makes v t work in
      let stop = stops_part (restore_of slot image pairs) machine (Restoring slot pairs image) Restored nester
      (restore_part slot pairs image) t its.state end its.is stopped in
      law.gives v its.state stop.0 may its.part stop.1 (ap is_made stop.2 ∙ done));
}

-- ---- a run

pub slots_of : (j : Job) (task : Task) → j.task ≡ task → NamesUsersSlots j.task → NamesUsersSlots task
slots_of j task is names = subst NamesUsersSlots is names

pub jobs_meet_contract : {V : Type 0} → JobsMeetTheirContract V
jobs_meet_contract jobs servers names index j ends s its starts = by j.task starts (names index j its)
  where
    made : (slot : ℕ) (pairs : List (ℕ × ℕ)) → NamesUsersSlots (Restore slot pairs (Given None)) → (o : Option Image)
        → ((image : Image) → o ≡ Some image → is_valid image ≡ true) →
        option_map (λ image. Restoring slot pairs image Makes) o ≡ Some s → MeetsContract machine j.nester s
    made slot pairs names None valid e = cc
    made slot pairs names (Some image) valid e =
        let is = same_state (Restoring slot pairs image Makes) s e in
        subst (MeetsContract machine j.nester) is
        (parts_meet_contract (restore_of slot image pairs) machine (Restoring slot pairs image) Restored j.nester Makes (restore_part slot pairs image)
        (restore_meets_contract slot j.nester (bound_by pairs) (picture image) (rooms_of image) names.0
        (valid_is_roomed (bound_by pairs) image (pairs_bind pairs names.1) (valid image refl))))

    by : (task : Task) → begins_by task ends ≡ Some s → NamesUsersSlots task → MeetsContract machine j.nester s
    by (Checkpoint slot) e low =
        let is = same_state (Checking slot Holds) s e in
        subst (MeetsContract machine j.nester) is
        (parts_meet_contract (checkpoint slot) machine (Checking slot) Checked j.nester Holds (checkpoint_part slot)
        (checkpoint_meets_contract slot j.nester low))
    by (Restore slot pairs source) e names = made slot pairs names (valid_one (sourced ends source)) (λ image from. valid_is (sourced ends source) image from) e

-- ---- each world of a run is nobody's cut

pub run_stays_uncut : {V : Type 0} → RunStaysUncut V
run_stays_uncut jobs servers first c past run uncut k = uncut_at (house jobs servers) first run uncut k

module _ {V : Type 0} (jobs : List Job) (servers : Servers V) (first c : Core State End V) (past : List Move) (run : IsRun (house jobs servers) first past c)
    (grounded : IsGrounded jobs servers first past) where
  whole : IsComposed run
  whole = composed (house jobs servers) first c past run grounded.users (jobs_meet_contract jobs servers grounded.slots) grounded.start grounded.few

  checkpoint_brief : (index begun upto : ℕ) (ends : List (JobEnd End)) (its : HasWorked run index ends begun upto) (slot d k : ℕ)
      → its.job.task ≡ Checkpoint slot →
      LiesWithin (cut (world_at run begun) its.nester slot) d → begun < k → k ≤ upto →
      job_moves run k ≤ job_moves run begun + 100 * ((count_of (cut (world_at run begun) its.nester slot) + 1) * (d + 1))
  checkpoint_brief index begun upto ends its slot d k is deep above low =
      by its.start (starts_checkpoint its.job.task ends slot its.start is its.starts) (its.throughout k above low)
    where
      limit : ℕ
      limit = 100 * ((count_of (cut (world_at run begun) its.nester slot) + 1) * (d + 1))

      on : (t : State) → WorksSo machine its.nester (world_at run begun) (Checking slot Holds) (world_at run k) t (job_moves run begun) (job_moves run k) →
          job_moves run k ≤ job_moves run begun + 100 * ((count_of (cut (world_at run begun) its.nester slot) + 1) * (d + 1))
      on t so =
          let part = works (checkpoint slot) machine (Checking slot) Checked its.nester (checkpoint_part slot) (world_at run begun) Holds
          (world_at run k) t so.work in
          let most = checkpoint_is_bounded slot its.job.nester (world_at run begun) (world_at run k) its.nester part.state d
          (slots_of its.job (Checkpoint slot) is (grounded.slots index its.job its.its)) its.may deep part.part in
          let same = part.count in
          let count = so.count in
          omega (arith, most, same, count)

      by : (s : State) → s ≡ Checking slot Holds → ((t : State)
          × WorksSo machine its.nester (world_at run begun) s (world_at run k) t (job_moves run begun) (job_moves run k)) →
          job_moves run k ≤ job_moves run begun + 100 * ((count_of (cut (world_at run begun) its.nester slot) + 1) * (d + 1))
      by s e there = on there.0 (subst (λ x. WorksSo machine its.nester (world_at run begun) x (world_at run k) there.0 (job_moves run begun)
          (job_moves run k)) e there.1)

  restore_brief : (index begun upto : ℕ) (ends : List (JobEnd End)) (its : HasWorked run index ends begun upto) (slot d k : ℕ) (pairs : List (ℕ × ℕ))
      (source : Source) (image : Image) →
      its.job.task ≡ Restore slot pairs source → valid_one (sourced ends source) ≡ Some image → LiesWithin (picture image) d → begun < k → k ≤ upto →
      job_moves run k ≤ job_moves run begun + 40 * ((made.count_of (rooms_of image) + 1) * (d + 1))
  restore_brief index begun upto ends its slot d k pairs source image is from deep above low =
      by its.start (starts_restore its.job.task ends slot pairs source image its.start is from its.starts) (its.throughout k above low)
    where
      on : (t : State) → WorksSo machine its.nester (world_at run begun) (Restoring slot pairs image Makes) (world_at run k) t (job_moves run begun)
          (job_moves run k) →
          job_moves run k ≤ job_moves run begun + 40 * ((made.count_of (rooms_of image) + 1) * (d + 1))
      on t so =
          let part = works (restore_of slot image pairs) machine (Restoring slot pairs image) Restored its.nester (restore_part slot pairs image)
          (world_at run begun) Makes (world_at run k) t so.work in
          let names = slots_of its.job (Restore slot pairs source) is (grounded.slots index its.job its.its) in
          let most = image_restore_is_bounded slot image pairs d (world_at run begun) (world_at run k) its.nester part.state
          (record { low = names.0; users = names.1; valid = valid_is (sourced ends source) image from }) deep part.part in
          let same = part.count in
          let count = so.count in
          omega (arith, most, same, count)

      by : (s : State) → s ≡ Restoring slot pairs image Makes
          → ((t : State) × WorksSo machine its.nester (world_at run begun) s (world_at run k) t (job_moves run begun) (job_moves run k)) →
          job_moves run k ≤ job_moves run begun + 40 * ((made.count_of (rooms_of image) + 1) * (d + 1))
      by s e there = on there.0 (subst (λ x. WorksSo machine its.nester (world_at run begun) x (world_at run k) there.0 (job_moves run begun)
          (job_moves run k)) e there.1)

  -- ---- ends

  pub record Ended_checkpoint (j : Job) (slot begun last : ℕ) (end : checkpoints.End) : Type 0 where
    pub nester : Path
    pub may : MayBegin (world_at run begun) nester j.nester
    pub low : slot ≤ LAST_USER_SLOT
    pub state : checkpoints.State
    pub work : AtWork (checkpoint slot) nester (world_at run begun) Holds (world_at run (last + 1)) state
    pub stopped : (checkpoint slot).head state ≡ Stops end

  pub ended_checkpoint : (index : ℕ) (j : Job) (slot begun last : ℕ) (end : checkpoints.End) → slice_get jobs index ≡ Some j → j.task ≡ Checkpoint slot →
      slice_get c.ends index ≡ Some (Worked (Checked end) begun last) → Ended_checkpoint j slot begun last end
  ended_checkpoint index j slot begun last end its is ended = by (whole.ended index (Checked end) begun last ended)
    where
      same_end : (a b : checkpoints.End) → Checked a ≡ Checked b → a ≡ b
      same_end a b e = cc

      from : (e : HasEnded run index (Checked end) begun last) → e.worked.job ≡ j → e.worked.start ≡ Checking slot Holds
          → Ended_checkpoint j slot begun last end
      from e job start =
          let there = subst (λ s. AtWork machine e.worked.nester (world_at run begun) s (world_at run (last + 1)) e.state) start e.there.work in
          let part = works (checkpoint slot) machine (Checking slot) Checked e.worked.nester (checkpoint_part slot) (world_at run begun) Holds
          (world_at run (last + 1)) e.state there in
          let stop = stops_part (checkpoint slot) machine (Checking slot) Checked e.worked.nester (checkpoint_part slot) e.state part.state
          (Checked end) part.is e.stopped in
          record {
            nester = e.worked.nester;
            may = subst (λ (i : Job). MayBegin (world_at run begun) e.worked.nester i.nester) job e.worked.may;
            low = slots_of j (Checkpoint slot) is (grounded.slots index j its);
            state = part.state;
            work = part.part;
            stopped = stop.1 ∙ ap (λ (a : checkpoints.End). Stops a) (same_end stop.0 end stop.2);
          }

      by : HasEnded run index (Checked end) begun last → Ended_checkpoint j slot begun last end
      by e =
          let w = e.worked in
          let job : w.job ≡ j = (let two = w.its in cc) in
          from e job (starts_checkpoint w.job.task (take index c.ends) slot w.start (ap (λ (i : Job). i.task) job ∙ is) w.starts)

  -- ---- each move of a checkpoint

  same_slot : (slot other : ℕ) (s t : checkpoints.State) → Checking slot s ≡ Checking other t → (slot ≡ other) × (s ≡ t)
  same_slot slot other s t e = (cc, cc)

  leaves_rest : (k begun slot : ℕ) (s : checkpoints.State) (stage : Stage) (words : List ℕ) → k < length past
      → asker_at run k ≡ Asked_by_job begun (Checking slot s) stage words →
      (m : Move) × LeftBeside past k m slot (world_at run begun) (world_at run k) (world_at run (k + 1))
  leaves_rest k begun slot s stage words low e =
      let its = moves_in_history (house jobs servers) first c past run grounded.users
      (jobs_meet_contract jobs servers grounded.slots) grounded.start grounded.few k begun (Checking slot s) stage words low e in
      by its
    where
      Left : Type 0
      Left = (m : Move) × LeftBeside past k m slot (world_at run begun) (world_at run k) (world_at run (k + 1))

      asks_under_part : (s : checkpoints.State) → machine.head (Checking slot s) ≡ Asks stage words → checkpoints.head slot s ≡ Asks stage words
      asks_under_part s asked = asks_part (checkpoint slot) machine (Checking slot) Checked [] (checkpoint_part slot) (Checking slot s) s stage words refl asked

      -- it is the first, or a later one
      first_move : (its : MovesAt run k begun (Checking slot s) stage words) → slot ≤ LAST_USER_SLOT → begun ≡ k → s ≡ Holds → Left
      first_move its user now is =
          let asked = asks_under_part Holds (subst (λ (x : checkpoints.State). machine.head (Checking slot x) ≡ Asks stage words) is its.asked) in
          let one : SpaceHold OWN_SPACE slot ≡ stage = cc in
          let two : no_words ≡ words = cc in
          let event : call_of its.nester stage words ≡ hold its.nester slot = λ i. call_of its.nester (sym one i) (sym two i) in
          let goes : world_at run (k + 1) ≡ after (world_at run k) (hold its.nester slot) = its.goes ∙ ap (λ e. after (world_at run k) e) event in
          let may = subst (λ i. MayBegin (world_at run i) its.nester its.job.nester) now its.may in
          let sound = subst IsSound goes (whole.sound (k + 1) (omega (arith, low))) in (
            its.move,
            record {
              nester = its.nester;
              placed = its.placed;
              named = its.may.named ∙ ap Some (sym its.space);
              stays = its.stays ∙ ap Some (sym its.space);
              same = subst (IsSameBeside its.nester slot (world_at run k)) (sym goes)
                  ((checkpoint_leaves_rest slot its.job.nester (world_at run k) its.nester user may sound).first
                  (subst (IsReadyAt (world_at run k)) event its.ready));
            },
          )

      later_move : (its : MovesAt run k begun (Checking slot s) stage words) → slot ≤ LAST_USER_SLOT
          → AtWork (checkpoint slot) its.nester (world_at run begun) Holds (world_at run k) s → Left
      later_move its user work =
          let asked = asks_under_part s its.asked in
          let held = work.asked in
          let one : SpaceHold OWN_SPACE slot ≡ work.stage = cc in
          let two : no_words ≡ work.words = cc in
          let event : call_of its.nester work.stage work.words ≡ hold its.nester slot = λ i. call_of its.nester (sym one i) (sym two i) in
          let behind = first_sound (checkpoint slot) its.nester _ _ work.events (world_at run k) s work.run in
          let sound = subst (λ e. IsSound (after (world_at run begun) e)) event behind in (
            its.move,
            record {
              nester = its.nester;
              placed = its.placed;
              named = its.may.named ∙ ap Some (sym its.space);
              stays = its.stays ∙ ap Some (sym its.space);
              same = subst (IsSameBeside its.nester slot (world_at run k)) (sym its.goes)
                  ((checkpoint_leaves_rest slot its.job.nester (world_at run begun) its.nester user its.may sound).later
                  (world_at run k) s stage words work asked (whole.sound k (omega (arith, low))) its.ready);
            },
          )

      checks : (its : MovesAt run k begun (Checking slot s) stage words) (other : ℕ) → other ≤ LAST_USER_SLOT → its.start ≡ Checking other Holds →
          ((begun ≡ k) × (Checking slot s ≡ its.start)) ⊎ AtWork machine its.nester (world_at run begun) its.start (world_at run k) (Checking slot s) → Left
      checks its other user start (inl now) =
          let same = same_slot slot other s Holds (now.1 ∙ start) in
          first_move its (subst (λ i. i ≤ LAST_USER_SLOT) (sym same.0) user) now.0 same.1
      checks its other user start (inr work) =
          let there = subst (λ x. AtWork machine its.nester (world_at run begun) x (world_at run k) (Checking slot s)) start work in
          let part = works (checkpoint other) machine (Checking other) Checked its.nester (checkpoint_part other) (world_at run begun) Holds (world_at run k)
          (Checking slot s) there in
          let same = same_slot slot other s part.state part.is in
          later_move its (subst (λ i. i ≤ LAST_USER_SLOT) (sym same.0) user)
          (subst (λ i. AtWork (checkpoint i) its.nester (world_at run begun) Holds (world_at run k) s) (sym same.0)
          (subst (λ x. AtWork (checkpoint other) its.nester (world_at run begun) Holds (world_at run k) x) (sym same.1) part.part))

      restores_not : (its : MovesAt run k begun (Checking slot s) stage words) (other : ℕ) (pairs : List (ℕ × ℕ)) (image : Image)
          → its.start ≡ Restoring other pairs image Makes →
          ((begun ≡ k) × (Checking slot s ≡ its.start)) ⊎ AtWork machine its.nester (world_at run begun) its.start (world_at run k) (Checking slot s) → Left
      restores_not its other pairs image start (inl now) = let apart = now.1 ∙ start in cc
      restores_not its other pairs image start (inr work) =
          let there = subst (λ x. AtWork machine its.nester (world_at run begun) x (world_at run k) (Checking slot s)) start work in
          let part = works (restore_of other image pairs) machine (Restoring other pairs image) Restored its.nester (restore_part other pairs image)
          (world_at run begun) Makes (world_at run k) (Checking slot s) there in
          let apart = part.is in
          cc

      from_image : (its : MovesAt run k begun (Checking slot s) stage words) (other : ℕ) (pairs : List (ℕ × ℕ)) (o : Option Image) →
          option_map (λ image. Restoring other pairs image Makes) o ≡ Some its.start → Left
      from_image its other pairs None e = cc
      from_image its other pairs (Some image) e = restores_not its other pairs image (sym (same_state (Restoring other pairs image Makes) its.start e)) its.at

      by : (its : MovesAt run k begun (Checking slot s) stage words) → Left
      by its = on its.job.task refl (grounded.slots its.index its.job its.its)
        where
          on : (task : Task) → its.job.task ≡ task → NamesUsersSlots its.job.task → Left
          on (Checkpoint other) is names = checks its other (slots_of its.job (Checkpoint other) is names)
              (starts_checkpoint its.job.task its.ends other its.start is its.starts) its.at
          on (Restore other pairs source) is names =
              from_image its other pairs (valid_one (sourced its.ends source)) (sym (ap (λ t. begins_by t its.ends) is) ∙ its.starts)

pub checkpoints_leave_the_rest : {V : Type 0} → CheckpointsLeaveTheRest V
checkpoints_leave_the_rest jobs servers first c past run grounded k begun slot s stage words low e =
    leaves_rest jobs servers first c past run grounded k begun slot s stage words low e

pub checkpoints_are_brief : {V : Type 0} → CheckpointsAreBrief V
checkpoints_are_brief jobs servers first c past run grounded index begun upto ends its slot d k is deep above low =
    checkpoint_brief jobs servers first c past run grounded index begun upto ends its slot d k is deep above low

pub restores_are_brief : {V : Type 0} → RestoresAreBrief V
restores_are_brief jobs servers first c past run grounded index begun upto ends its slot d k pairs source image is from deep above low =
    restore_brief jobs servers first c past run grounded index begun upto ends its slot d k pairs source image is from deep above low

pub checkpoints_end_as_it_was : {V : Type 0} → CheckpointsEndAsItWas V
checkpoints_end_as_it_was jobs servers first c past run grounded index j slot begun last end its is ended =
    let e = ended_checkpoint jobs servers first c past run grounded index j slot begun last end its is ended in
    record {
      nester = e.nester;
      named = e.may.named;
      was = checkpoint_ends_as_it_was slot j.nester (world_at run begun) (world_at run (last + 1)) e.nester e.state end e.low e.may e.work e.stopped;
    }

-- ---- users alone lie in what is saved

last_slot : (k : ℕ) (b : Body) → stands_in k b ≡ true → is_native b ≡ true → k ≡ LAST_PORTER_SLOT
last_slot k b stands native = by (nat_le k LAST_USER_SLOT) (nat_le k LAST_SCRATCH_SLOT) stands
  where
    no_reference : (b : Body) → is_native b ≡ true → is_some (reference_of b) ≡ true → ⊥
    no_reference (Thread_of t) native some = cc
    no_reference (Reference to) native some = cc
    no_reference b native some = cc

    both : (native_b : Bool) → native_b ≡ true → not native_b ≡ true → ⊥
    both true one two = cc
    both false one two = cc

    by : (t r : Bool) → (if t then not (is_native b) else (if r then is_some (reference_of b) else (k == LAST_PORTER_SLOT && is_native b))) ≡ true
        → k ≡ LAST_PORTER_SLOT
    by true r e = absurd (both (is_native b) native e)
    by false true e = absurd (no_reference b native e)
    by false false e = eqb-true k LAST_PORTER_SLOT (and_parts (k == LAST_PORTER_SLOT) (is_native b) e).0

native_last : (w : World) → IsSound w → (k : ℕ) (x : Path) → holds is_native (w.body (k ∷ x)) ≡ true → k ≡ LAST_PORTER_SLOT
native_last w sound k x there = by (w.body (k ∷ x)) refl there
  where
    by : (o : Option Body) → w.body (k ∷ x) ≡ o → holds is_native o ≡ true → k ≡ LAST_PORTER_SLOT
    by (Some b) e native = last_slot k b (sound.savable.slots_kept k x b e) native
    by None e native = cc

off_unless : (b : Bool) → (b ≡ true → ⊥) → b ≡ false
off_unless true h = absurd (h refl)
off_unless false h = refl

-- a space is no porter and no port
no_space : (o : Option Body) → option_map kind_of o ≡ Some kinds.Space → (holds is_native o ≡ true → ⊥) × (holds is_served o ≡ true → ⊥)
no_space (Some (Space birth holder)) kind = ((λ h. cc), λ h. cc)
no_space (Some (Mutex locked)) kind = cc
no_space (Some Cond) kind = cc
no_space (Some (Mapping m)) kind = cc
no_space (Some (Region r)) kind = cc
no_space (Some (Port set served)) kind = cc
no_space (Some Portset) kind = cc
no_space (Some (Thread_of t)) kind = cc
no_space (Some (Reference to)) kind = cc
no_space None kind = cc

alone_later : (first w : World) (nester : Path) (slot : ℕ) → IsSound w → Stood first w → IsUnserved first nester slot → IsSpaceAt w (slot ∷ nester)
    → IsUsersAlone w nester slot
unfolding kind_there
alone_later first w nester slot sound stood before space = by (w.body (slot ∷ nester)) refl space
  where
    porter : (q : Path) → holds is_native (w.body (q ++ slot ∷ nester)) ≡ true → ⊥
    porter [] there = (no_space (w.body (slot ∷ nester)) space).0 there
    porter (k ∷ q) there =
        let last = native_last w sound k (q ++ slot ∷ nester) there in
        let at_last : holds is_native (w.body (LAST_PORTER_SLOT ∷ (q ++ slot ∷ nester))) ≡ true =
        ap (λ i. holds is_native (w.body (i ∷ (q ++ slot ∷ nester)))) (sym last) ∙ there in
        let was = stood.porters (q ++ slot ∷ nester) at_last in
        let both = sym was ∙ before.no_porter LAST_PORTER_SLOT q in
        cc

    served : (q : Path) → holds is_served (w.body (q ++ slot ∷ nester)) ≡ true → ⊥
    served [] there = (no_space (w.body (slot ∷ nester)) space).1 there
    served (k ∷ q) there = let both = sym (stood.served (k ∷ (q ++ slot ∷ nester)) there) ∙ before.unserved k q in cc

    by : (o : Option Body) → w.body (slot ∷ nester) ≡ o → option_map kind_of o ≡ Some kinds.Space → IsUsersAlone w nester slot
    by (Some (Space birth holder)) e kind = record {
      birth = birth;
      holder = holder;
      root = e;
      no_porter = λ q. off_unless (holds is_native (w.body (q ++ slot ∷ nester))) (porter q);
      unserved = λ q. off_unless (holds is_served (w.body (q ++ slot ∷ nester))) (served q);
    }
    by (Some (Mutex locked)) e kind = cc
    by (Some Cond) e kind = cc
    by (Some (Mapping m)) e kind = cc
    by (Some (Region r)) e kind = cc
    by (Some (Port set served)) e kind = cc
    by (Some Portset) e kind = cc
    by (Some (Thread_of t)) e kind = cc
    by (Some (Reference to)) e kind = cc
    by None e kind = cc

alone_there : {V : Type 0} (jobs : List Job) (servers : Servers V) (first c : Core State End V) (past : List Move)
    (run : IsRun (house jobs servers) first past c) (grounded : IsGrounded jobs servers first past)
    (index : ℕ) (j : Job) (slot begun last : ℕ) (image : Image) → slice_get jobs index ≡ Some j → j.task ≡ Checkpoint slot →
    slice_get c.ends index ≡ Some (Worked (Checked (Done image)) begun last) → (nester : Path) → birth_at (world_at run begun) nester ≡ Some j.nester
    → IsUsersAlone (world_at run begun) nester slot
alone_there jobs servers first c past run grounded index j slot begun last image its is ended nester named =
    let e = ended_checkpoint jobs servers first c past run grounded index j slot begun last (Done image) its is ended in
    let native = (called e.nester (world_at run begun) e.work.stage e.work.words e.work.ready).native in
    let stood = stood_at (house jobs servers) first grounded.users
    (jobs_meet_contract jobs servers grounded.slots) grounded.start grounded.uncut run grounded.few begun in
    let was = checkpoint_ends_as_it_was slot j.nester (world_at run begun) (world_at run (last + 1)) e.nester e.state
    (Done image) e.low e.may e.work e.stopped in
    let before = grounded.alone index j slot its is e.nester (sym (stood.births e.nester native) ∙ e.may.named) in
    let same : e.nester ≡ nester = e.may.sound.whole.valid.consistent.apart e.nester nester j.nester e.may.named named in
    subst (λ (x : Path). IsUsersAlone (world_at run begun) x slot) same
    (alone_later first.world (world_at run begun) e.nester slot e.may.sound stood before was.0)

pub checkpoints_save : {V : Type 0} → CheckpointsSave V
checkpoints_save jobs servers first c past run grounded index j slot begun last image its is ended =
    let alone = alone_there jobs servers first c past run grounded index j slot begun last image its is ended in
    let may_save : (nester : Path) → birth_at (world_at run begun) nester ≡ Some j.nester → MaySave (world_at run begun) nester slot =
    λ nester named. record { uncut = uncut_at (house jobs servers) first run grounded.uncut begun; users = alone nester named } in
    let e = ended_checkpoint jobs servers first c past run grounded index j slot begun last (Done image) its is ended in (
      (checkpoint_images_subtree slot j.nester (world_at run begun) (world_at run (last + 1)) e.nester e.state image e.low e.may
          (may_save e.nester e.may.named) e.work e.stopped).0,
      checkpoints_hold (house jobs servers) first c past run grounded.users
          (jobs_meet_contract jobs servers grounded.slots) grounded.start grounded.few index j slot pictured (Checked (Done image)) begun last
          (picture image) its
          (λ nester ends s named starts. subst (λ x. Saves machine j.nester slot pictured (world_at run begun) nester x)
          (sym (starts_checkpoint j.task ends slot s is starts))
          (saves_whole slot j.nester (world_at run begun) nester
          (checkpoint_saves slot j.nester (world_at run begun) nester e.low (may_save nester named)))) ended refl,
    )

pub restores_make : {V : Type 0} → RestoresMake V
restores_make jobs servers first c past run grounded index j slot begun last pairs source image its is from ended =
    let names = slots_of j (Restore slot pairs source) is (grounded.slots index j its) in
    restores_hold (house jobs servers) first c past run grounded.users (jobs_meet_contract jobs servers grounded.slots) grounded.start grounded.few index j slot
    (bound_by pairs) (picture image) is_made (Restored restores.Done) begun last its
    (λ nester s named starts. subst (λ x. Restores machine j.nester slot (bound_by pairs) (picture image) is_made (world_at run begun) nester x)
    (sym (starts_restore j.task (take index c.ends) slot pairs source image s is from starts))
    (restores_whole slot j.nester image pairs (world_at run begun) nester (image_is_restored slot j.nester image pairs (world_at run begun) nester
    (record { low = names.0; users = names.1; valid = valid_is (sourced (take index c.ends) source) image from })))) ended refl

-- ---- the two together

pub got_before : {A : Type 0} (xs : List A) (n i : ℕ) → i < n → slice_get (take n xs) i ≡ slice_get xs i
got_before {A = A} [] n i low = by n
  where
    by : (n : ℕ) → slice_get {X = A} (take n []) i ≡ slice_get {X = A} [] i
    by zero = refl
    by (suc n) = refl
got_before (x ∷ xs) zero i low = absurd (omega (arith, low))
got_before (x ∷ xs) (suc n) zero low = refl
got_before (x ∷ xs) (suc n) (suc i) low = got_before xs n i (omega (arith, low))

pub saved_goes_on : {V : Type 0} → SavedGoesOn V
saved_goes_on jobs servers first c past run grounded from to i j slot place holds release made done pairs image its is ended their there restored_it before =
    let saved = checkpoints_save jobs servers first c past run grounded from i slot holds release image its is ended in
    let source : valid_one (sourced (take to c.ends) (MadeBy from)) ≡ Some image =
    ap valid_one (ap image_made (got_before c.ends to from before ∙ ended)) ∙ ap (λ t. cond t (Some image) None) saved.0 in
    let restored = restores_make jobs servers first c past run grounded to j place made done pairs (MadeBy from) image their there source restored_it in
    record {
      nester = saved.1.nester;
      named = saved.1.named;
      there = restored.nester;
      named_there = restored.named;
      further = λ ms. restored_go_on (house jobs servers) first c past run grounded.users
          (jobs_meet_contract jobs servers grounded.slots) grounded.start grounded.few i.nester slot holds release (picture image) saved.1
          (uncut_at (house jobs servers) first run grounded.uncut holds)
          (alone_there jobs servers first c past run grounded from i slot holds release image its is ended saved.1.nester saved.1.named) j.nester place made
          done (bound_by pairs) restored ms;
    }
