-- A job's moves in a run, one by one.
use Rattle.std.proofs.Common.{◌≡◌, ℕ, ◌+◌, ◌<◌, ◌≤◌, Bool, true, false, cond, ◌==◌, List, [], ◌∷◌, length, take, Option, Some, None, option_map, refl, sym, ap}
use Rattle.std.proofs.Common.{◌++◌, nat_le, length-append, subst, arith, ◌∙◌, ◌⊎◌, inl, inr}
use Rattle.std.proofs.lemmas.Bool.{leb-true}
use Rattle.std.specs.List.{slice_get}
use Rattle.fk_model.specs.declared.limits.TheConstants.{OWN_SPACE, LAST_USER_SLOT}
use Rattle.fk_model.specs.declared.moves.Move.{Move}
use Rattle.fk_model.specs.declared.stage.Stage.{Stage}
use Rattle.fk_model.specs.declared.stage.Stage.TheVariants.{SpaceMakeHeld, SpaceRelease}
use Rattle.fk_model.specs.declared.statuses.status.TheConstants.{OK}
use Rattle.fk_model.specs.Places.{Ptr}
use Rattle.fk_model.specs.World.{World}
use Rattle.fk_model.specs.Valid.{birth_at}
use Rattle.fk_model.specs.Closed.{Place}
use Rattle.fk_model.specs.Runs.{after}
use Rattle.fk_image.specs.declared.image.image.Image.{Image}
use Rattle.fk_image.specs.Image.Picture.{picture}
use Rattle.fk_image.specs.Image.Valid.{is_valid}
use Rattle.laws_jobs.specs.Machines.{Head, no_words, call_of, IsReadyAt, AtWork}
use Rattle.laws_jobs.specs.Machines.Head.{Stops, Asks}
use Rattle.laws_jobs.specs.Jobs.{MayBegin}
use Rattle.laws_checkpoint.specs.Foreign as seeks
use Rattle.laws_checkpoint.specs.Walk as walks
use Rattle.laws_checkpoint.specs.Walk.{Met}
use Rattle.laws_checkpoint.specs.Contents as reads
use Rattle.laws_checkpoint.specs.Contents.{Content}
use Rattle.laws_checkpoint.specs.Gather as gathers
use Rattle.laws_checkpoint.specs.Assembly.{spaces_met, sought_tasks, gathered_tasks}
use Rattle.laws_checkpoint.specs.Checkpoint as checkpoints
use Rattle.laws_checkpoint.specs.Checkpoint.{checkpoint}
use Rattle.laws_checkpoint.proofs.Ended.{Came, came, ended_in}
use Rattle.laws_checkpoint.proofs.Ended.Came.{NeverHeld, InPhase}
use Rattle.laws_checkpoint.proofs.Calling.{checkpoint_is_ready}
use Rattle.laws_restore.specs.Restore.Restore as restores
use Rattle.laws_restore.specs.Restore.Restore.State.{Makes}
use Rattle.laws_restore.specs.Restore.Roomed.{IsRoomed}
use Rattle.laws_restore.specs.Restore.Rest.{IsSameFar}
use Rattle.laws_restore.proofs.InRestore.Readied.{is_ready as restore_is_ready}
use Rattle.laws_restore.proofs.InRestore.Resting.{leaves_far}
use Rattle.laws_restore.proofs.InRestore.Lasting.{occupied_is_exact}
use Rattle.laws_restore.proofs.InRestore.Looked.{no_port_is_exact}
use Rattle.laws_restore.specs.Rooms.Rooms.{rooms_of}
use Rattle.laws_restore.specs.Rooms.Restoring.{bound_by, restore_of}
use Rattle.laws_restore.proofs.InRooms.Roomed.{valid_is_roomed}
use Rattle.laws_restore.proofs.InRooms.Restored.{pairs_bind, image_restore_ends_so}
use Rattle.laws_runs.specs.Cores.{JobEnd, Servers, Work, Core, IsRun, world_at}
use Rattle.laws_runs.specs.Cores.JobEnd.{Worked}
use Rattle.laws_runs.specs.Cores.IsRun.{Begins, Goes}
use Rattle.laws_runs.specs.Cores.Asker.{Job as Asked_by_job}
use Rattle.laws_runs.specs.Events.{core_at}
use Rattle.laws_runs.specs.Placed.{EndedThere}
use Rattle.laws_runs.specs.Turning.{asker_at, MovesAt}
use Rattle.laws_runs.proofs.Composing.{Working, stands}
use Rattle.laws_runs.proofs.Placed.{ends_are_there}
use Rattle.laws_runs.proofs.Turning.{moves_in_history}
use Rattle.laws_house.specs.Houses.{Job, Task, Source, State, End, machine, valid_one, sourced, begins_by, house}
use Rattle.laws_house.specs.Houses.Task.{Checkpoint, Restore}
use Rattle.laws_house.specs.Houses.State.{Checking, Restoring}
use Rattle.laws_house.specs.Houses.End.{Checked, Restored}
use Rattle.laws_house.specs.Laws.{NamesUsersSlots, IsGrounded}
use Rattle.laws_house.specs.Moves.{LeftFar, RestoresLeaveTheRest, NextIsReady, JobsAreReady, EndedSo, RestoresEndSo, IsLastCall, LastCallIsKnown, GoneLeavesAll}
use Rattle.laws_house.proofs.Parts.{asks_part, stops_part, works}
use Rattle.laws_house.proofs.There.{PlacedFrom, works_there, missed_there}
use Rattle.laws_house.proofs.House.{checkpoint_part, restore_part, same_state, valid_is, starts_restore, slots_of, jobs_meet_contract}

-- ---- what a job of the house starts with

-- a checkpoint of a user's slot, or a restore of a valid image
pub data Starts (j : Job) (s : State) : Type 0 where
  AsCheckpoint : (slot : ℕ) → slot ≤ LAST_USER_SLOT → s ≡ Checking slot checkpoints.Holds → Starts j s
  AsRestore : (slot : ℕ) (pairs : List (ℕ × ℕ)) (image : Image) → slot ≤ LAST_USER_SLOT → IsRoomed (bound_by pairs) (picture image) (rooms_of image) →
      s ≡ Restoring slot pairs image Makes → Starts j s

pub starts : (j : Job) (ends : List (JobEnd End)) (s : State) → NamesUsersSlots j.task → begins_by j.task ends ≡ Some s → Starts j s
starts j ends s names e = by j.task names e
  where
    made : (slot : ℕ) (pairs : List (ℕ × ℕ)) (source : Source) → NamesUsersSlots (Restore slot pairs source) → (o : Option Image)
        → ((image : Image) → o ≡ Some image → is_valid image ≡ true) →
        option_map (λ image. Restoring slot pairs image Makes) o ≡ Some s → Starts j s
    made slot pairs source names None valid e = cc
    made slot pairs source names (Some image) valid e =
        AsRestore slot pairs image names.0 (valid_is_roomed (bound_by pairs) image (pairs_bind pairs names.1) (valid image refl))
        (sym (same_state (Restoring slot pairs image Makes) s e))

    by : (task : Task) → NamesUsersSlots task → begins_by task ends ≡ Some s → Starts j s
    by (Checkpoint slot) low e = AsCheckpoint slot low (sym (same_state (Checking slot checkpoints.Holds) s e))
    by (Restore slot pairs source) names e = made slot pairs source names (valid_one (sourced ends source))
        (λ image from. valid_is (sourced ends source) image from) e

same_restore : (slot other : ℕ) (pairs given : List (ℕ × ℕ)) (image picture_of : Image) (s t : restores.State)
    → Restoring slot pairs image s ≡ Restoring other given picture_of t →
    (slot ≡ other) × (pairs ≡ given) × (image ≡ picture_of) × (s ≡ t)
same_restore slot other pairs given image picture_of s t e = (cc, cc, cc, cc)

module _ {V : Type 0} (jobs : List Job) (servers : Servers V) (first c : Core State End V) (past : List Move) (run : IsRun (house jobs servers) first past c)
    (grounded : IsGrounded jobs servers first past) where
  -- ---- what a restore's moves leave

  module _ (k begun slot : ℕ) (pairs : List (ℕ × ℕ)) (image : Image) (s : restores.State) (stage : Stage) (words : List ℕ) where
    Left : Type 0
    Left = (m : Move) × LeftFar past k m slot (world_at run begun) (world_at run k) (world_at run (k + 1))

    asks_under_part : (s : restores.State) → machine.head (Restoring slot pairs image s) ≡ Asks stage words → restores.head slot s ≡ Asks stage words
    asks_under_part s asked = asks_part (restore_of slot image pairs) machine (Restoring slot pairs image) Restored [] (restore_part slot pairs image)
        (Restoring slot pairs image s) s stage words refl asked

    abbrev It : Type 0
    It = MovesAt run k begun (Restoring slot pairs image s) stage words

    first_move : (its : It) → slot ≤ LAST_USER_SLOT → IsRoomed (bound_by pairs) (picture image) (rooms_of image) → begun ≡ k → s ≡ Makes → Left
    unfolding Left
    first_move its user roomed now is =
        let asked = asks_under_part Makes (subst (λ (x : restores.State). machine.head (Restoring slot pairs image x) ≡ Asks stage words) is its.asked) in
        let one : SpaceMakeHeld slot ≡ stage = cc in
        let two : no_words ≡ words = cc in
        let event : call_of its.nester stage words ≡ call_of its.nester (SpaceMakeHeld slot) no_words = λ i. call_of its.nester (sym one i) (sym two i) in
        let goes : world_at run (k + 1) ≡ after (world_at run k) (call_of its.nester (SpaceMakeHeld slot) no_words) = its.goes
        ∙ ap (λ e. after (world_at run k) e) event in
        let may = subst (λ i. MayBegin (world_at run i) its.nester its.job.nester) now its.may in (
          its.move,
          record {
            nester = its.nester;
            placed = its.placed;
            named = its.may.named ∙ ap Some (sym its.space);
            stays = its.stays ∙ ap Some (sym its.space);
            same = subst (IsSameFar its.nester slot (world_at run k)) (sym goes)
                ((leaves_far slot its.job.nester (bound_by pairs) (picture image) (rooms_of image) (world_at run k) its.nester user roomed may).first
                (subst (IsReadyAt (world_at run k)) event its.ready));
          },
        )

    later_move : (its : It) → slot ≤ LAST_USER_SLOT → IsRoomed (bound_by pairs) (picture image) (rooms_of image)
        → AtWork (restore_of slot image pairs) its.nester (world_at run begun) Makes (world_at run k) s → Left
    unfolding Left
    later_move its user roomed work =
        let asked = asks_under_part s its.asked in (
          its.move,
          record {
            nester = its.nester;
            placed = its.placed;
            named = its.may.named ∙ ap Some (sym its.space);
            stays = its.stays ∙ ap Some (sym its.space);
            same = subst (IsSameFar its.nester slot (world_at run k)) (sym its.goes)
                ((leaves_far slot its.job.nester (bound_by pairs) (picture image) (rooms_of image) (world_at run begun) its.nester user roomed its.may).later
                (world_at run k) s stage words work asked its.ready);
          },
        )

    left_by : (its : It) → Starts its.job its.start → Left
    left_by its (AsCheckpoint other user start) = by its.at
      where
        by : ((begun ≡ k) × (Restoring slot pairs image s ≡ its.start))
            ⊎ AtWork machine its.nester (world_at run begun) its.start (world_at run k) (Restoring slot pairs image s) → Left
        by (inl now) = let apart = now.1 ∙ start in cc
        by (inr work) =
            let there = subst (λ x. AtWork machine its.nester (world_at run begun) x (world_at run k) (Restoring slot pairs image s)) start work in
            let part = works (checkpoint other) machine (Checking other) Checked its.nester (checkpoint_part other) (world_at run begun) checkpoints.Holds
            (world_at run k) (Restoring slot pairs image s) there in
            let apart = part.is in
            cc
    left_by its (AsRestore other given seen user roomed start) = by its.at
      where
        by : ((begun ≡ k) × (Restoring slot pairs image s ≡ its.start))
            ⊎ AtWork machine its.nester (world_at run begun) its.start (world_at run k) (Restoring slot pairs image s) → Left
        by (inl now) =
            let same = same_restore slot other pairs given image seen s Makes (now.1 ∙ start) in
            first_move its (subst (λ i. i ≤ LAST_USER_SLOT) (sym same.0) user)
            (subst (λ (i : Image). IsRoomed (bound_by pairs) (picture i) (rooms_of i)) (sym same.2)
            (subst (λ (ps : List (ℕ × ℕ)). IsRoomed (bound_by ps) (picture seen) (rooms_of seen)) (sym same.1) roomed))
            now.0 same.3
        by (inr work) =
            let there = subst (λ x. AtWork machine its.nester (world_at run begun) x (world_at run k) (Restoring slot pairs image s)) start work in
            let part = works (restore_of other seen given) machine (Restoring other given seen) Restored its.nester (restore_part other given seen)
            (world_at run begun) Makes (world_at run k) (Restoring slot pairs image s) there in
            let same = same_restore slot other pairs given image seen s part.state part.is in
            later_move its (subst (λ i. i ≤ LAST_USER_SLOT) (sym same.0) user)
            (subst (λ (i : Image). IsRoomed (bound_by pairs) (picture i) (rooms_of i)) (sym same.2)
            (subst (λ (ps : List (ℕ × ℕ)). IsRoomed (bound_by ps) (picture seen) (rooms_of seen)) (sym same.1) roomed))
            (subst (λ i. AtWork (restore_of i image pairs) its.nester (world_at run begun) Makes (world_at run k) s) (sym same.0)
            (subst (λ (ps : List (ℕ × ℕ)). AtWork (restore_of other image ps) its.nester (world_at run begun) Makes (world_at run k) s) (sym same.1)
            (subst (λ (i : Image). AtWork (restore_of other i given) its.nester (world_at run begun) Makes (world_at run k) s) (sym same.2)
            (subst (λ x. AtWork (restore_of other seen given) its.nester (world_at run begun) Makes (world_at run k) x) (sym same.3) part.part))))

    leaves_the_rest : k < length past → asker_at run k ≡ Asked_by_job begun (Restoring slot pairs image s) stage words
        → (m : Move) × LeftFar past k m slot (world_at run begun) (world_at run k) (world_at run (k + 1))
    unfolding Left
    leaves_the_rest low e =
        let its = moves_in_history (house jobs servers) first c past run grounded.users
        (jobs_meet_contract jobs servers grounded.slots) grounded.start grounded.few k begun (Restoring slot pairs image s) stage words low e in
        left_by its (starts its.job its.ends its.start (grounded.slots its.index its.job its.its) its.starts)

  -- ---- the next move

  next_ready : (k : Work State) → c.work ≡ Some k → (j : Job) × (slice_get jobs (length c.ends) ≡ Some j) × NextIsReady j.nester k.state c.world
  next_ready k working =
      let w = (stands (house jobs servers) first grounded.users
      (jobs_meet_contract jobs servers grounded.slots) grounded.start run grounded.few).working k working in
      (w.worked.job, w.worked.its, by w (starts w.worked.job c.ends w.worked.start (grounded.slots (length c.ends) w.worked.job w.worked.its) w.worked.starts))
    where
      named : (w : Working (house jobs servers) first grounded.users (jobs_meet_contract jobs servers grounded.slots) grounded.start run k)
          → birth_at c.world w.worked.nester ≡ Some w.worked.job.nester
      named w =
          let law = jobs_meet_contract jobs servers grounded.slots (length c.ends) w.worked.job c.ends w.worked.start w.worked.its w.worked.starts in
          (law.stays (world_at run k.begun) w.worked.nester c.world k.state w.worked.may w.now.work w.stage w.words w.asked).named

      by : (w : Working (house jobs servers) first grounded.users (jobs_meet_contract jobs servers grounded.slots) grounded.start run k)
          → Starts w.worked.job w.worked.start → NextIsReady w.worked.job.nester k.state c.world
      by w (AsCheckpoint slot user start) =
          let there = subst (λ x. AtWork machine w.worked.nester (world_at run k.begun) x c.world k.state) start w.now.work in
          let part = works (checkpoint slot) machine (Checking slot) Checked w.worked.nester (checkpoint_part slot)
          (world_at run k.begun) checkpoints.Holds c.world k.state there in
          subst (λ x. NextIsReady w.worked.job.nester x c.world) (sym part.is) (record {
            nester = w.worked.nester;
            named = named w;
            ready = λ stage words asked calm. checkpoint_is_ready slot w.worked.job.nester
                (world_at run k.begun) c.world w.worked.nester part.state stage words user w.worked.may part.part
                (asks_part (checkpoint slot) machine (Checking slot) Checked w.worked.nester (checkpoint_part slot)
                (Checking slot part.state) part.state stage words refl asked) calm;
          })
      by w (AsRestore slot pairs image user roomed start) =
          let there = subst (λ x. AtWork machine w.worked.nester (world_at run k.begun) x c.world k.state) start w.now.work in
          let part = works (restore_of slot image pairs) machine (Restoring slot pairs image) Restored w.worked.nester (restore_part slot pairs image)
          (world_at run k.begun) Makes c.world k.state there in
          subst (λ x. NextIsReady w.worked.job.nester x c.world) (sym part.is) (record {
            nester = w.worked.nester;
            named = named w;
            ready = λ stage words asked calm. restore_is_ready slot w.worked.job.nester (bound_by pairs) (picture image) (rooms_of image)
                (world_at run k.begun) c.world w.worked.nester part.state stage words user roomed
                w.worked.may part.part (asks_part (restore_of slot image pairs) machine (Restoring slot pairs image) Restored w.worked.nester
                (restore_part slot pairs image) (Restoring slot pairs image part.state) part.state
                stage words refl asked) calm;
          })

  -- ---- ends of restores

  ended_so : (index : ℕ) (j : Job) (slot begun last : ℕ) (pairs : List (ℕ × ℕ)) (source : Source) (image : Image) (end : restores.End)
      → slice_get jobs index ≡ Some j → j.task ≡ Restore slot pairs source →
      valid_one (sourced (take index c.ends) source) ≡ Some image → slice_get c.ends index ≡ Some (Worked (Restored end) begun last) →
      EndedSo run j.nester slot pairs image begun last end
  ended_so index j slot begun last pairs source image end its is from ended =
      by (ends_are_there (house jobs servers) first c past run grounded.users (jobs_meet_contract jobs servers grounded.slots) grounded.start grounded.few index
      (Restored end) begun last ended)
    where
      same_end : (a b : restores.End) → Restored a ≡ Restored b → a ≡ b
      same_end a b e = cc

      on : (e : EndedThere run index (Restored end) begun last) → e.job ≡ j → e.start ≡ Restoring slot pairs image Makes
          → EndedSo run j.nester slot pairs image begun last end
      on e job start =
          let placed = subst (λ s. PlacedFrom run machine (λ (x : State). x) e.nester begun (world_at run begun) s (world_at run (last + 1)) e.state
          (last + 1)) start
          (record { work = e.work; there = e.there; long = (let long = e.long in omega (arith, long)) }) in
          let part = works_there run (restore_of slot image pairs) machine (Restoring slot pairs image) Restored e.nester (restore_part slot pairs image) begun
          (world_at run begun) Makes (world_at run (last + 1)) e.state (last + 1) placed in
          let stop = stops_part (restore_of slot image pairs) machine (Restoring slot pairs image) Restored e.nester
          (restore_part slot pairs image) e.state part.state (Restored end) part.is e.stopped in
          let stops = stop.1 ∙ ap (λ (a : restores.End). Stops a) (same_end stop.0 end stop.2) in
          let may = subst (λ (i : Job). MayBegin (world_at run begun) e.nester i.nester) job e.may in
          let names = slots_of j (Restore slot pairs source) is (grounded.slots index j its) in
          let valid = valid_is (sourced (take index c.ends) source) image from in
          let work = part.it.work in
          let missing = no_port_is_exact slot j.nester (bound_by pairs) (picture image) (rooms_of image) (world_at run begun)
          (world_at run (last + 1)) e.nester part.state end names.0
          (valid_is_roomed (bound_by pairs) image (pairs_bind pairs names.1) valid) may work stops in
          record {
            nester = e.nester;
            named = may.named;
            so = image_restore_ends_so slot j.nester image pairs (world_at run begun) (world_at run (last + 1)) e.nester part.state end
                (record { low = names.0; users = names.1; valid = valid }) may work stops;
            taken = occupied_is_exact slot j.nester (bound_by pairs) (picture image) (rooms_of image) (world_at run begun)
                (world_at run (last + 1)) e.nester part.state end names.0
                (valid_is_roomed (bound_by pairs) image (pairs_bind pairs names.1) valid) may work stops;
            state = part.state;
            work = work;
            there = part.it.there;
            missing = missing;
            missed_at = λ port none. missed_there run slot pairs image e.nester begun (bound_by pairs port) _ _ work.events _ _ (begun + 1)
                (last + 1) work.run part.it.there.placed part.it.long
                (missing.missed port none).1;
          }

      by : EndedThere run index (Restored end) begun last → EndedSo run j.nester slot pairs image begun last end
      by e =
          let job : e.job ≡ j = (let two = e.its in cc) in
          on e job (starts_restore e.job.task (take index c.ends) slot pairs source image e.start (ap (λ (i : Job). i.task) job ∙ is) from e.starts)

pub restores_leave_the_rest : {V : Type 0} → RestoresLeaveTheRest V
restores_leave_the_rest jobs servers first c past run grounded k begun slot pairs image s stage words low e =
    leaves_the_rest jobs servers first c past run grounded k begun slot pairs image s stage words low e

-- with some work and ends in a world
abbrev NextIsReadyBy : List Job → Option (Work State) → List (JobEnd End) → World → Type 0
NextIsReadyBy jobs work ends w =
    (k : Work State) → work ≡ Some k → (j : Job) × (slice_get jobs (length ends) ≡ Some j) × NextIsReady j.nester k.state w

pub jobs_are_ready : {V : Type 0} → JobsAreReady V
jobs_are_ready jobs servers first _ _ Begins grounded n low = next_ready jobs servers first first [] Begins grounded
jobs_are_ready jobs servers first _ _ (Goes past c m d run ready settles) grounded n low =
    by (nat_le n (length past)) refl (λ early. jobs_are_ready jobs servers first c past run before n early)
    (next_ready jobs servers first d (past ++ m ∷ []) (Goes past c m d run ready settles) grounded)
  where
    before : IsGrounded jobs servers first past
    before = record {
      users = grounded.users;
      slots = grounded.slots;
      start = grounded.start;
      few = let few = grounded.few in let longer = length-append past (m ∷ []) in omega (arith, few, longer);
      uncut = grounded.uncut;
      alone = grounded.alone;
    }

    by : (t : Bool) → nat_le n (length past) ≡ t →
        (n ≤ length past → NextIsReadyBy jobs (core_at run n).work (core_at run n).ends (world_at run n)) → NextIsReadyBy jobs d.work d.ends d.world →
        NextIsReadyBy jobs (cond t (core_at run n) d).work (cond t (core_at run n) d).ends (cond t (world_at run n) d.world)
    by true is earlier now = earlier (leb-true n (length past) is)
    by false is earlier now = now

pub restores_end_so : {V : Type 0} → RestoresEndSo V
restores_end_so jobs servers first c past run grounded index j slot begun last pairs source image end its is from ended =
    ended_so jobs servers first c past run grounded index j slot begun last pairs source image end its is from ended

-- ---- a checkpoint's last call

module _ (P : Type 0) (slot : ℕ) (end : checkpoints.End) where
  dropping : (other : checkpoints.End) → checkpoints.ends_as other ≡ checkpoints.Over end → P
  dropping other e = cc

  gathering : (cs : List Content) (s : gathers.State) (h : Head (List Ptr)) → checkpoints.gathers_on cs s h ≡ checkpoints.Over end → P
  gathering cs s (Asks stage words) e = cc
  gathering cs s (Stops ps) e = dropping _ e

  reading : (s : reads.State) (h : Head (List Content)) → checkpoints.reads_on slot s h ≡ checkpoints.Over end → P
  reading s (Asks stage words) e = cc
  reading s (Stops cs) e = let first = gathers.begin slot (gathered_tasks cs) [] in gathering cs first (gathers.head slot first) e

  seeking : (mets : List Met) (s : seeks.State) (h : Head (Option Place)) → checkpoints.seeks_on slot mets s h ≡ checkpoints.Over end → P
  seeking mets s (Asks stage words) e = cc
  seeking mets s (Stops (Some place)) e = dropping _ e
  seeking mets s (Stops None) e = let first = reads.begin slot (spaces_met mets) [] in reading first (reads.head slot first) e

  walking : (s : walks.State) (h : Head (List Met)) → checkpoints.walks_on slot s h ≡ checkpoints.Over end → P
  walking s (Asks stage words) e = cc
  walking s (Stops mets) e = let first = seeks.begin slot (sought_tasks mets) in seeking mets first (seeks.head slot first) e

over : (a b : checkpoints.End) → checkpoints.Over a ≡ checkpoints.Over b → a ≡ b
over a b e = cc

pub last_call_is_known : LastCallIsKnown
last_call_is_known slot checkpoints.Holds stage words status told end asked e = by (status == OK) e
  where
    by : (t : Bool) → cond t (checkpoints.Readies seeks.PLACES (seeks.TARGETS ∷ seeks.STEPS ∷ [])) (checkpoints.Over checkpoints.Gone) ≡ checkpoints.Over end
        → IsLastCall slot end checkpoints.Holds stage
    by true e = cc
    by false e = subst (λ (x : checkpoints.End). IsLastCall slot x checkpoints.Holds stage) (over checkpoints.Gone end e) (inl refl)
last_call_is_known slot (checkpoints.Readies r []) stage words status told end asked e = walking
    (IsLastCall slot end (checkpoints.Readies r []) stage) slot end walks.begin (walks.head slot walks.begin) e
last_call_is_known slot (checkpoints.Readies r (k ∷ rest)) stage words status told end asked e = cc
last_call_is_known slot (checkpoints.Walks s) stage words status told end asked e = walking (IsLastCall slot end (checkpoints.Walks s) stage) slot end
    (walks.next slot s status told) (walks.head slot (walks.next slot s status told)) e
last_call_is_known slot (checkpoints.Seeks mets s) stage words status told end asked e = seeking
    (IsLastCall slot end (checkpoints.Seeks mets s) stage) slot end mets (seeks.next slot s status told) (seeks.head slot (seeks.next slot s status told)) e
last_call_is_known slot (checkpoints.Reads s) stage words status told end asked e = reading (IsLastCall slot end (checkpoints.Reads s) stage) slot end
    (reads.next slot s status told) (reads.head slot (reads.next slot s status told)) e
last_call_is_known slot (checkpoints.Gathers cs s) stage words status told end asked e = gathering
    (IsLastCall slot end (checkpoints.Gathers cs s) stage) slot end cs (gathers.next slot s status told) (gathers.head slot (gathers.next slot s status told)) e
last_call_is_known slot (checkpoints.Drops r [] other) stage words status told end asked e = cc
last_call_is_known slot (checkpoints.Drops r (k ∷ rest) other) stage words status told end asked e = cc
last_call_is_known slot (checkpoints.Releases other) stage words status told end asked e =
    subst (λ (x : checkpoints.End). IsLastCall slot x (checkpoints.Releases other) stage) (over other end e) (by other asked)
  where
    release : (other : checkpoints.End) → checkpoints.head slot (checkpoints.Releases other) ≡ Asks stage words → stage ≡ SpaceRelease OWN_SPACE slot
    release other asked = let one : SpaceRelease OWN_SPACE slot ≡ stage = cc in sym one

    by : (other : checkpoints.End) → checkpoints.head slot (checkpoints.Releases other) ≡ Asks stage words
        → IsLastCall slot other (checkpoints.Releases other) stage
    by checkpoints.Gone asked = inr refl
    by (checkpoints.Foreign place) asked = release (checkpoints.Foreign place) asked
    by (checkpoints.Done image) asked = release (checkpoints.Done image) asked
last_call_is_known slot (checkpoints.Over other) stage words status told end asked e = cc

pub gone_leaves_all : GoneLeavesAll
gone_leaves_all slot birth w v nester t low may work stops = by (came slot birth w nester low may v t work)
  where
    by : Came slot birth w nester low may v t → v ≡ w
    by (NeverHeld none same is_over) = same
    by (InPhase held sound phase) = absurd ((ended_in slot birth w nester low may held sound v t checkpoints.Gone phase stops).0)
