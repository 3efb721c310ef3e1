-- A job's first and last move at their places, what its end leaves, and when a restore has no image.
use Rattle.std.proofs.Common.{◌≡◌, ℕ, zero, suc, ◌+◌, ◌<◌, Bool, true, false, cond, ◌==◌, List, [], ◌∷◌, take, Option, Some, None, option_map, refl, sym, ap}
use Rattle.std.proofs.Common.{subst, ◌∙◌}
use Rattle.std.specs.List.{slice_get}
use Rattle.fk_model.specs.declared.limits.TheConstants.{OWN_SPACE}
use Rattle.fk_model.specs.declared.moves.Move.{Move}
use Rattle.fk_model.specs.declared.stage.Stage.TheVariants.{SpaceHold, SpaceMakeHeld}
use Rattle.fk_model.specs.declared.statuses.status.TheConstants.{OK}
use Rattle.fk_model.specs.Places.{Ptr}
use Rattle.fk_model.specs.Closed.{Place}
use Rattle.fk_model.specs.Runs.{after}
use Rattle.fk_image.specs.declared.image.image.Image.{Image}
use Rattle.laws_moves.specs.Savable.Savable.{IsSound}
use Rattle.fk_model.specs.declared.moves.Ask.TheVariants as asks
use Rattle.fk_model.specs.Who.{event_of}
use Rattle.laws_jobs.specs.Machines.{Head, no_words, reply_of, heard, call_of, said_of}
use Rattle.laws_jobs.specs.Machines.Head.{Stops, Asks}
use Rattle.laws_jobs.specs.Holds.{hold}
use Rattle.laws_jobs.proofs.Weaving.{first_sound}
use Rattle.laws_checkpoint.specs.Foreign as seeks
use Rattle.laws_checkpoint.specs.Walk as walks
use Rattle.laws_checkpoint.specs.Walk.{Met}
use Rattle.laws_checkpoint.specs.Contents as reads
use Rattle.laws_checkpoint.specs.Contents.{Content}
use Rattle.laws_checkpoint.specs.Gather as gathers
use Rattle.laws_checkpoint.specs.Assembly.{spaces_met, sought_tasks, gathered_tasks}
use Rattle.laws_checkpoint.specs.Checkpoint as checkpoints
use Rattle.laws_checkpoint.specs.Checkpoint.{checkpoint}
use Rattle.laws_checkpoint.proofs.Calling.{checkpoint_leaves_rest}
use Rattle.laws_restore.specs.Restore.Restore as restores
use Rattle.laws_restore.specs.Restore.Script.{script}
use Rattle.laws_restore.proofs.InRestore.Lasting.{last_call_is_known as restores_last_call}
use Rattle.laws_restore.specs.Sites.Orders.{Order, passes}
use Rattle.laws_restore.specs.Restore.Rooms.{Room}
use Rattle.laws_restore.specs.Rooms.Rooms.{rooms_of}
use Rattle.laws_restore.specs.Rooms.Restoring.{bound_by, restore_of}
use Rattle.laws_runs.specs.Cores.{JobEnd, Servers, Core, IsRun, world_at}
use Rattle.laws_runs.specs.Cores.Unmoved.{NoImage, Dead}
use Rattle.laws_runs.specs.Cores.JobEnd.{Worked, Idle}
use Rattle.laws_runs.specs.Cores.Asker.{Job as Asked_by_job}
use Rattle.laws_runs.specs.Composed.{IsStart}
use Rattle.laws_runs.specs.Ended.{Comes, EndedBy, EndIs}
use Rattle.laws_runs.specs.Ended.Comes.{Begins, Hears}
use Rattle.laws_runs.proofs.Ended.{ends_are_so}
use Rattle.laws_runs.proofs.Composing.{composed}
use Rattle.laws_house.specs.Houses.{Job, Task, Source, State, End, machine, image_made, sourced, valid_one, begins_by, house}
use Rattle.laws_house.specs.Houses.Source.{MadeBy}
use Rattle.laws_house.specs.Houses.Task.{Checkpoint, Restore}
use Rattle.laws_house.specs.Houses.State.{Checking, Restoring}
use Rattle.laws_house.specs.Houses.End.{Checked, Restored}
use Rattle.laws_house.specs.Laws.{IsGrounded}
use Rattle.laws_house.specs.Places.{CheckpointMoves, CheckpointsMoveSo, RestoreMoves, RestoresMoveSo, JobsEndClean, CheckpointsRelease, RestoresWantAnImage}
use Rattle.laws_house.specs.Places.{IsDone, RestoresWantTheirMaker}
use Rattle.laws_house.proofs.Parts.{asks_part, stops_part}
use Rattle.laws_house.proofs.House.{checkpoint_part, restore_part, jobs_meet_contract, starts_checkpoint, starts_restore, got_before, ended_checkpoint}
use Rattle.laws_house.proofs.House.{checkpoints_save}
use Rattle.laws_house.proofs.Moving.{last_call_is_known}

-- ---- a machine stops only where it is over

module _ (slot : ℕ) (end : checkpoints.End) where
  over_by : (other : checkpoints.End) → checkpoints.head slot (checkpoints.Over other) ≡ Stops end → checkpoints.Over other ≡ checkpoints.Over end
  over_by other e = let same : other ≡ end = cc in ap checkpoints.Over same

  dropping : (other : checkpoints.End) → checkpoints.head slot (checkpoints.ends_as other) ≡ Stops end → checkpoints.ends_as other ≡ checkpoints.Over end
  dropping other e = cc

  gathering : (cs : List Content) (s : gathers.State) (h : Head (List Ptr)) → gathers.head slot s ≡ h
      → checkpoints.head slot (checkpoints.gathers_on cs s h) ≡ Stops end → checkpoints.gathers_on cs s h ≡ checkpoints.Over end
  gathering cs s (Asks stage words) is e = let off : checkpoints.head slot (checkpoints.Gathers cs s) ≡ Asks stage words = ap checkpoints.asks_as is in
      let both = sym off ∙ e in cc
  gathering cs s (Stops ps) is e = dropping _ e

  reading : (s : reads.State) (h : Head (List Content)) → reads.head slot s ≡ h → checkpoints.head slot (checkpoints.reads_on slot s h) ≡ Stops end
      → checkpoints.reads_on slot s h ≡ checkpoints.Over end
  reading s (Asks stage words) is e = let off : checkpoints.head slot (checkpoints.Reads s) ≡ Asks stage words = ap checkpoints.asks_as is in
      let both = sym off ∙ e in cc
  reading s (Stops cs) is e = let first = gathers.begin slot (gathered_tasks cs) [] in gathering cs first (gathers.head slot first) refl e

  seeking : (mets : List Met) (s : seeks.State) (h : Head (Option Place)) → seeks.head slot s ≡ h
      → checkpoints.head slot (checkpoints.seeks_on slot mets s h) ≡ Stops end → checkpoints.seeks_on slot mets s h ≡ checkpoints.Over end
  seeking mets s (Asks stage words) is e = let off : checkpoints.head slot (checkpoints.Seeks mets s) ≡ Asks stage words = ap checkpoints.asks_as is in
      let both = sym off ∙ e in cc
  seeking mets s (Stops (Some place)) is e = dropping _ e
  seeking mets s (Stops None) is e = let first = reads.begin slot (spaces_met mets) [] in reading first (reads.head slot first) refl e

  walking : (s : walks.State) (h : Head (List Met)) → walks.head slot s ≡ h → checkpoints.head slot (checkpoints.walks_on slot s h) ≡ Stops end
      → checkpoints.walks_on slot s h ≡ checkpoints.Over end
  walking s (Asks stage words) is e = let off : checkpoints.head slot (checkpoints.Walks s) ≡ Asks stage words = ap checkpoints.asks_as is in
      let both = sym off ∙ e in cc
  walking s (Stops mets) is e = let first = seeks.begin slot (sought_tasks mets) in seeking mets first (seeks.head slot first) refl e

  checkpoint_over : (s : checkpoints.State) (status : ℕ) (told : List ℕ) → checkpoints.head slot (checkpoints.next slot s status told) ≡ Stops end
      → checkpoints.next slot s status told ≡ checkpoints.Over end
  checkpoint_over checkpoints.Holds status told e = by (status == OK) e
    where
      by : (t : Bool) → checkpoints.head slot (cond t (checkpoints.Readies seeks.PLACES (seeks.TARGETS ∷ seeks.STEPS ∷ []))
          (checkpoints.Over checkpoints.Gone)) ≡ Stops end →
          cond t (checkpoints.Readies seeks.PLACES (seeks.TARGETS ∷ seeks.STEPS ∷ [])) (checkpoints.Over checkpoints.Gone) ≡ checkpoints.Over end
      by true e = cc
      by false e = over_by checkpoints.Gone e
  checkpoint_over (checkpoints.Readies r []) status told e = walking walks.begin (walks.head slot walks.begin) refl e
  checkpoint_over (checkpoints.Readies r (k ∷ rest)) status told e = cc
  checkpoint_over (checkpoints.Walks s) status told e = walking (walks.next slot s status told) (walks.head slot (walks.next slot s status told)) refl e
  checkpoint_over (checkpoints.Seeks mets s) status told e = seeking mets (seeks.next slot s status told)
      (seeks.head slot (seeks.next slot s status told)) refl e
  checkpoint_over (checkpoints.Reads s) status told e = reading (reads.next slot s status told) (reads.head slot (reads.next slot s status told)) refl e
  checkpoint_over (checkpoints.Gathers cs s) status told e = gathering cs (gathers.next slot s status told)
      (gathers.head slot (gathers.next slot s status told)) refl e
  checkpoint_over (checkpoints.Drops r [] other) status told e = cc
  checkpoint_over (checkpoints.Drops r (k ∷ rest) other) status told e = cc
  checkpoint_over (checkpoints.Releases other) status told e = over_by other e
  checkpoint_over (checkpoints.Over other) status told e = over_by other e

module _ (slot : ℕ) (bind : ℕ → ℕ) (rooms : List Room) (end : restores.End) where
  done_by : (other : restores.End) → restores.head slot (restores.Over other) ≡ Stops end → restores.Over other ≡ restores.Over end
  done_by other e = let same : other ≡ end = cc in ap restores.Over same

  working : (os : List Order) → restores.head slot (restores.Works os) ≡ Stops end → restores.Works os ≡ restores.Over end
  working [] e = cc
  working (o ∷ os) e = cc

  clearing : (os : List Order) (more port : ℕ) → restores.head slot (restores.Clears os more port) ≡ Stops end
      → restores.Clears os more port ≡ restores.Over end
  clearing [] more port e = cc
  clearing (o ∷ os) more port e = cc

  refusing : (os : List Order) (o : Option ℕ) → restores.head slot (restores.refused bind rooms os o) ≡ Stops end
      → restores.refused bind rooms os o ≡ restores.Over end
  refusing os None e = working os e
  refusing os (Some j) e = cc

  restore_over : (s : restores.State) (status : ℕ) (told : List ℕ) → restores.head slot (restores.next slot bind rooms s status told) ≡ Stops end
      → restores.next slot bind rooms s status told ≡ restores.Over end
  restore_over restores.Makes status told e = by (status == OK) e
    where
      by : (t : Bool) → restores.head slot (cond t (restores.Works (script slot bind rooms)) (restores.Over restores.Occupied)) ≡ Stops end →
          cond t (restores.Works (script slot bind rooms)) (restores.Over restores.Occupied) ≡ restores.Over end
      by true e = working (script slot bind rooms) e
      by false e = done_by restores.Occupied e
  restore_over (restores.Works []) status told e = done_by restores.Done e
  restore_over (restores.Works (o ∷ os)) status told e = by (passes o status told) e
    where
      by : (t : Bool) → restores.head slot (cond t (restores.Works os) (restores.refused bind rooms os (restores.looked_at o))) ≡ Stops end →
          cond t (restores.Works os) (restores.refused bind rooms os (restores.looked_at o)) ≡ restores.Over end
      by true e = working os e
      by false e = refusing os (restores.looked_at o) e
  restore_over (restores.Clears [] zero port) status told e = done_by (restores.NoPort port) e
  restore_over (restores.Clears [] (suc more) port) status told e = clearing [] more port e
  restore_over (restores.Clears (o ∷ os) more port) status told e = clearing os more port e
  restore_over (restores.Over other) status told e = done_by other e

-- ---- a part stays that part

comes_checking : (slot : ℕ) (t : State) → Comes machine (Checking slot checkpoints.Holds) t → (s : checkpoints.State) × (t ≡ Checking slot s)
comes_checking slot _ Begins = (checkpoints.Holds, refl)
comes_checking slot _ (Hears t said rest) =
    let its = comes_checking slot t rest in
    (checkpoints.next slot its.0 (reply_of said).status (reply_of said).words, ap (λ x. heard machine x said) its.1)

comes_restoring : (slot : ℕ) (pairs : List (ℕ × ℕ)) (image : Image) (t : State) → Comes machine (Restoring slot pairs image restores.Makes) t
    → (s : restores.State) × (t ≡ Restoring slot pairs image s)
comes_restoring slot pairs image _ Begins = (restores.Makes, refl)
comes_restoring slot pairs image _ (Hears t said rest) =
    let its = comes_restoring slot pairs image t rest in
    ((restore_of slot image pairs).next its.0 (reply_of said).status (reply_of said).words, ap (λ x. heard machine x said) its.1)

module _ {V : Type 0} (jobs : List Job) (servers : Servers V) (first c : Core State End V) (past : List Move)
    (run : IsRun (house jobs servers) first past c) where
  -- ---- checkpoints

  checkpoint_moves : (slot begun last : ℕ) (end : checkpoints.End) → EndedBy run (Checking slot checkpoints.Holds) (Checked end) begun last
      → CheckpointMoves run slot begun last end
  checkpoint_moves slot begun last end by =
      let held = by.begins.asked in
      let one : by.begins.stage ≡ SpaceHold OWN_SPACE slot = cc in
      let two : by.begins.words ≡ no_words = cc in
      let its = comes_checking slot by.state by.comes in
      let asked = asks_part (checkpoint slot) machine (Checking slot) Checked []
      (checkpoint_part slot) by.state its.0 by.ends.stage by.ends.words its.1 by.ends.asked in
      let said = said_of (world_at run last) (event_of (world_at run last) (asks.Call by.ends.stage by.ends.words) by.move) in
      let status = (reply_of said).status in
      let told = (reply_of said).words in
      let behind : heard machine by.state said ≡ Checking slot (checkpoints.next slot its.0 status told) = ap (λ x. heard machine x said) its.1 in
      let stop = stops_part (checkpoint slot) machine (Checking slot) Checked [] (checkpoint_part slot) (heard machine by.state said)
      (checkpoints.next slot its.0 status told) (Checked end) behind by.stops in
      let same : stop.0 ≡ end = same_end stop.0 end stop.2 in
      let over = checkpoint_over slot end its.0 status told (stop.1 ∙ ap (λ (a : checkpoints.End). Stops a) same) in
      record {
        order = by.order;
        hold = by.begins.asks ∙ (λ i. Asked_by_job begun (Checking slot checkpoints.Holds) (one i) (two i));
        state = its.0;
        stage = by.ends.stage;
        words = by.ends.words;
        ends = by.ends.asks ∙ ap (λ x. Asked_by_job begun x by.ends.stage by.ends.words) its.1;
        last_call = last_call_is_known slot its.0 by.ends.stage by.ends.words status told end asked over;
      }
    where
      same_end : (a b : checkpoints.End) → Checked a ≡ Checked b → a ≡ b
      same_end a b e = cc

  restore_moves : (slot : ℕ) (pairs : List (ℕ × ℕ)) (image : Image) (begun last : ℕ) (end : restores.End)
      → EndedBy run (Restoring slot pairs image restores.Makes) (Restored end) begun last →
      RestoreMoves run slot pairs image begun last end
  restore_moves slot pairs image begun last end by =
      let made = by.begins.asked in
      let one : by.begins.stage ≡ SpaceMakeHeld slot = cc in
      let two : by.begins.words ≡ no_words = cc in
      let its = comes_restoring slot pairs image by.state by.comes in
      let asked = asks_part (restore_of slot image pairs) machine (Restoring slot pairs image) Restored []
      (restore_part slot pairs image) by.state its.0 by.ends.stage by.ends.words its.1 by.ends.asked in
      let said = said_of (world_at run last) (event_of (world_at run last) (asks.Call by.ends.stage by.ends.words) by.move) in
      let status = (reply_of said).status in
      let told = (reply_of said).words in
      let later = (restore_of slot image pairs).next its.0 status told in
      let behind : heard machine by.state said ≡ Restoring slot pairs image later = ap (λ x. heard machine x said) its.1 in
      let stop = stops_part (restore_of slot image pairs) machine (Restoring slot pairs image) Restored [] (restore_part slot pairs image)
      (heard machine by.state said) later (Restored end) behind by.stops in
      let same : stop.0 ≡ end = same_end stop.0 end stop.2 in
      let over = restore_over slot (bound_by pairs) (rooms_of image) end its.0 status told (stop.1 ∙ ap (λ (a : restores.End). Stops a) same) in
      record {
        order = by.order;
        make = by.begins.asks ∙ (λ i. Asked_by_job begun (Restoring slot pairs image restores.Makes) (one i) (two i));
        state = its.0;
        stage = by.ends.stage;
        words = by.ends.words;
        ends = by.ends.asks ∙ ap (λ x. Asked_by_job begun x by.ends.stage by.ends.words) its.1;
        last_call = restores_last_call slot (bound_by pairs) (rooms_of image) its.0 by.ends.stage by.ends.words status told end asked over;
      }
    where
      same_end : (a b : restores.End) → Restored a ≡ Restored b → a ≡ b
      same_end a b e = cc

  module _ (start : IsStart first) where
    checkpoint_at : (index : ℕ) (j : Job) (slot begun last : ℕ) (end : checkpoints.End) → slice_get jobs index ≡ Some j → j.task ≡ Checkpoint slot →
        slice_get c.ends index ≡ Some (Worked (Checked end) begun last) → CheckpointMoves run slot begun last end
    checkpoint_at index j slot begun last end its is ended =
        let so = ends_are_so (house jobs servers) first c past run start index (Worked (Checked end) begun last) ended in
        let found = so.1 in
        let job : so.0 ≡ j = cc in
        let begins = starts_checkpoint so.0.task (take index c.ends) slot so.2.0 (ap (λ (i : Job). i.task) job ∙ is) so.2.1 in
        checkpoint_moves slot begun last end (subst (λ (s : State). EndedBy run s (Checked end) begun last) begins so.2.2)

    restore_at : (index : ℕ) (j : Job) (slot begun last : ℕ) (pairs : List (ℕ × ℕ)) (source : Source) (image : Image) (end : restores.End)
        → slice_get jobs index ≡ Some j →
        j.task ≡ Restore slot pairs source → valid_one (sourced (take index c.ends) source) ≡ Some image
        → slice_get c.ends index ≡ Some (Worked (Restored end) begun last) →
        RestoreMoves run slot pairs image begun last end
    restore_at index j slot begun last pairs source image end its is from ended =
        let so = ends_are_so (house jobs servers) first c past run start index (Worked (Restored end) begun last) ended in
        let found = so.1 in
        let job : so.0 ≡ j = cc in
        let begins = starts_restore so.0.task (take index c.ends) slot pairs source image so.2.0 (ap (λ (i : Job). i.task) job ∙ is) from so.2.1 in
        restore_moves slot pairs image begun last end (subst (λ (s : State). EndedBy run s (Restored end) begun last) begins so.2.2)

    -- ---- no image

    begins_none : (o : Option Image) (slot : ℕ) (pairs : List (ℕ × ℕ)) → option_map (λ image. Restoring slot pairs image restores.Makes) o ≡ None → o ≡ None
    begins_none None slot pairs e = refl
    begins_none (Some image) slot pairs e = cc

    wants_an_image : (index : ℕ) (j : Job) (slot : ℕ) (pairs : List (ℕ × ℕ)) (source : Source) (end : JobEnd End) → slice_get jobs index ≡ Some j
        → j.task ≡ Restore slot pairs source →
        slice_get c.ends index ≡ Some end →
        (end ≡ Idle NoImage → valid_one (sourced (take index c.ends) source) ≡ None)
        × (valid_one (sourced (take index c.ends) source) ≡ None → end ≡ Idle NoImage)
    wants_an_image index j slot pairs source end its is ended =
        let so = ends_are_so (house jobs servers) first c past run start index end ended in
        let found = so.1 in
        let job : so.0 ≡ j = cc in
        by so.0 (ap (λ (i : Job). i.task) job ∙ is) end so.2
      where
        begun : (job : Job) → job.task ≡ Restore slot pairs source
            → begins_by job.task (take index c.ends)
            ≡ option_map (λ image. Restoring slot pairs image restores.Makes) (valid_one (sourced (take index c.ends) source))
        begun job task = ap (λ (t : Task). begins_by t (take index c.ends)) task

        no_start : (job : Job) (s : State) → job.task ≡ Restore slot pairs source → begins_by job.task (take index c.ends) ≡ Some s
            → valid_one (sourced (take index c.ends) source) ≡ None → ⊥
        no_start job s task starts none =
            let nothing : begins_by job.task (take index c.ends) ≡ None = begun job task
            ∙ ap (option_map (λ image. Restoring slot pairs image restores.Makes)) none in
            let both = sym starts ∙ nothing in cc

        by : (job : Job) → job.task ≡ Restore slot pairs source → (end : JobEnd End) → EndIs run (take index c.ends) job end →
            (end ≡ Idle NoImage → valid_one (sourced (take index c.ends) source) ≡ None)
            × (valid_one (sourced (take index c.ends) source) ≡ None → end ≡ Idle NoImage)
        by job task (Worked e begun last) so = ((λ same. cc), λ none. absurd (no_start job so.0 task so.1 none))
        by job task (Idle NoImage) so = (
          (λ same. begins_none (valid_one (sourced (take index c.ends) source)) slot pairs (sym (begun job task) ∙ so.1.so)),
          λ none. refl,
        )
        by job task (Idle Dead) so = ((λ same. cc), λ none. absurd (no_start job so.1.so.0 task so.1.so.1 none))

  module _ (grounded : IsGrounded jobs servers first past) where
    maker_image : (from : ℕ) (i : Job) (saved : ℕ) → slice_get jobs from ≡ Some i → i.task ≡ Checkpoint saved → IsDone c from
        → (image : Image) × (valid_one (image_made (slice_get c.ends from)) ≡ Some image)
    maker_image from i saved its is done =
        let law = checkpoints_save jobs servers first c past run grounded from i saved done.1 done.2 done.0 its is done.3 in
        (done.0, ap valid_one (ap image_made done.3) ∙ ap (λ (t : Bool). cond t (Some done.0) None) law.0)

    no_maker : (from : ℕ) (o : Option (JobEnd End)) → slice_get c.ends from ≡ o → (IsDone c from → ⊥) → valid_one (image_made o) ≡ None
    no_maker from None e undone = refl
    no_maker from (Some (Idle why)) e undone = refl
    no_maker from (Some (Worked (Restored end) begun last)) e undone = refl
    no_maker from (Some (Worked (Checked checkpoints.Gone) begun last)) e undone = refl
    no_maker from (Some (Worked (Checked (checkpoints.Foreign place)) begun last)) e undone = refl
    no_maker from (Some (Worked (Checked (checkpoints.Done image)) begun last)) e undone = absurd (undone (image, begun, last, e))

    wants_its_maker : (from index : ℕ) (i j : Job) (saved slot : ℕ) (pairs : List (ℕ × ℕ)) (end : JobEnd End) → slice_get jobs from ≡ Some i
        → i.task ≡ Checkpoint saved → slice_get jobs index ≡ Some j →
        j.task ≡ Restore slot pairs (MadeBy from) → from < index → slice_get c.ends index ≡ Some end
        → (end ≡ Idle NoImage → IsDone c from → ⊥) × ((IsDone c from → ⊥) → end ≡ Idle NoImage)
    wants_its_maker from index i j saved slot pairs end its is their task before ended =
        let law = wants_an_image grounded.start index j slot pairs (MadeBy from) end their task ended in
        let same : slice_get (take index c.ends) from ≡ slice_get c.ends from = got_before c.ends index from before in (
          (λ none done. (let image = maker_image from i saved its is done in
              let both = sym (ap (λ o. valid_one (image_made o)) same ∙ image.1) ∙ law.0 none in
              cc)),
          λ undone. law.1 (ap (λ o. valid_one (image_made o)) same ∙ no_maker from (slice_get c.ends from) refl undone),
        )

pub checkpoints_move_so : {V : Type 0} → CheckpointsMoveSo V
checkpoints_move_so jobs servers first c past run start index j slot begun last end its is ended =
    checkpoint_at jobs servers first c past run start index j slot begun last end its is ended

pub restores_move_so : {V : Type 0} → RestoresMoveSo V
restores_move_so jobs servers first c past run start index j slot begun last pairs source image end its is from ended =
    restore_at jobs servers first c past run start index j slot begun last pairs source image end its is from ended

pub restores_want_an_image : {V : Type 0} → RestoresWantAnImage V
restores_want_an_image jobs servers first c past run start index j slot pairs source end its is ended =
    wants_an_image jobs servers first c past run start index j slot pairs source end its is ended

pub restores_want_their_maker : {V : Type 0} → RestoresWantTheirMaker V
restores_want_their_maker jobs servers first c past run grounded from index i j saved slot pairs end its is their task before ended =
    wants_its_maker jobs servers first c past run grounded from index i j saved slot pairs end its is their task before ended

pub jobs_end_clean : {V : Type 0} → JobsEndClean V
jobs_end_clean jobs servers first c past run grounded index begun last end ended =
    let e = (composed (house jobs servers) first c past run grounded.users
    (jobs_meet_contract jobs servers grounded.slots) grounded.start grounded.few).ended index end begun last ended in
    let w = e.worked in
    (jobs_meet_contract jobs servers grounded.slots index w.job (take index c.ends) w.start w.its w.starts).ends (world_at run begun) w.nester
    (world_at run (last + 1)) e.state end w.may e.there.work e.stopped

pub checkpoints_release : {V : Type 0} → CheckpointsRelease V
checkpoints_release jobs servers first c past run grounded index j slot begun last end its is ended =
    let e = ended_checkpoint jobs servers first c past run grounded index j slot begun last end its is ended in
    let work = e.work in
    let held = work.asked in
    let one : SpaceHold OWN_SPACE slot ≡ work.stage = cc in
    let two : no_words ≡ work.words = cc in
    let event : call_of e.nester work.stage work.words ≡ hold e.nester slot = λ i. call_of e.nester (sym one i) (sym two i) in
    let behind = first_sound (checkpoint slot) e.nester _ _ work.events (world_at run (last + 1)) e.state work.run in
    let sound = subst (λ e. IsSound (after (world_at run begun) e)) event behind in
    record {
      nester = e.nester;
      named = e.may.named;
      unheld = λ space. (checkpoint_leaves_rest slot j.nester (world_at run begun) e.nester e.low e.may sound).ends
          (world_at run (last + 1)) e.state end work e.stopped space;
    }
