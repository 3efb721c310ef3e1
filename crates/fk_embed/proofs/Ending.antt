-- What a save and a restore come to.
use Rattle.std.proofs.Common.{◌≡◌, ℕ, ◌≤◌, List, ◌∷◌, Result, Ok, Err, IfOk, refl, sym, ap, subst, ◌∙◌}
use Rattle.fk_embed.specs.Jobs.{ComesTo, GoesOn, IsUnderWay}
use Rattle.fk_embed.specs.Jobs.IsUnderWay.{Begins, Works}
use Rattle.fk_embed.specs.Now.{CopyGoesOn, IsRestored, IsSaved, Restores, Saves}
use Rattle.fk_image.specs.declared.image.image.Image.{Image}
use Rattle.fk_image.specs.Image.Picture.{picture}
use Rattle.fk_jobs.specs.declared.ended.Finish.{Finish}
use Rattle.fk_jobs.specs.Ended.{finish_of}
use Rattle.fk_model.specs.declared.limits.TheConstants.{LAST_USER_SLOT, OWN_SPACE}
use Rattle.fk_model.specs.declared.stage.Stage.TheVariants.{SpaceHold}
use Rattle.fk_model.specs.Places.{Path}
use Rattle.fk_model.specs.Rebind.{rebound}
use Rattle.fk_model.specs.Runs.{after}
use Rattle.fk_model.specs.World.{World}
use Rattle.laws_checkpoint.proofs.Calling.{checkpoint_leaves_rest}
use Rattle.laws_checkpoint.proofs.Ended.{checkpoint_ends_as_it_was, checkpoint_meets_contract, checkpoint_keeps_cut}
use Rattle.laws_checkpoint.proofs.Saved.{checkpoint_images_subtree}
use Rattle.laws_checkpoint.specs.Checkpoint as checkpoints
use Rattle.laws_checkpoint.specs.Checkpoint.{checkpoint}
use Rattle.laws_checkpoint.specs.Checkpoint.State.{Holds}
use Rattle.laws_house.proofs.House.{checkpoint_part, restore_part}
use Rattle.laws_house.proofs.Parts.{parts_meet_contract, stops_part, works}
use Rattle.laws_house.specs.Houses.{State, machine}
use Rattle.laws_house.specs.Houses.End.{Checked, Restored}
use Rattle.laws_house.specs.Houses.State.{Checking, Restoring}
use Rattle.laws_jobs.proofs.Weaving.{first_sound, now_sound}
use Rattle.laws_jobs.specs.Holds.{hold}
use Rattle.laws_jobs.specs.Jobs.{MeetsContract, MayBegin}
use Rattle.laws_jobs.specs.Machines.{AtWork, call_of, no_words}
use Rattle.laws_jobs.specs.Machines.Head.{Stops}
use Rattle.laws_moves.specs.Savable.Savable.{IsSound}
use Rattle.laws_restore.proofs.InRestore.Owing.{meets_contract as restore_meets_contract}
use Rattle.laws_restore.proofs.InRooms.Restored.{image_is_restored, image_restore_ends_so, roomed}
use Rattle.laws_restore.specs.Restore.Restore as restores
use Rattle.laws_restore.specs.Restore.Restore.State.{Makes}
use Rattle.laws_restore.specs.Rooms.Restoring.{IsRestoreJob, bound_by, restore_of}
use Rattle.laws_restore.specs.Rooms.Rooms.{rooms_of}
use Rattle.laws_runs.proofs.Onwards.{restored_goes_on}
use Rattle.laws_subtrees.proofs.InFurther.ClosedLaws.{closed_is_plain}

-- what holds of an answer by what is known of it
pub if_ok : {A F : Type 0} (r : Result A F) (P Q : A → Type 0) → ((a : A) → P a → Q a) → IfOk r P → IfOk r Q
if_ok (Ok a) P Q f h = f a h
if_ok (Err e) P Q f h = tt

-- ---- a save

module _ (slot birth : ℕ) (w : World) (nester : Path) (low : slot ≤ LAST_USER_SLOT) (may : MayBegin w nester birth) where
  save_contract : MeetsContract machine birth (Checking slot Holds)
  save_contract = parts_meet_contract (checkpoint slot) machine (Checking slot) Checked birth Holds (checkpoint_part slot) (checkpoint_meets_contract slot birth low)

  -- the world behind its hold is sound
  hold_sound : (v : World) (t : checkpoints.State) → AtWork (checkpoint slot) nester w Holds v t → IsSound (after w (hold nester slot))
  hold_sound v t work =
      let held = work.asked in
      let one : SpaceHold OWN_SPACE slot ≡ work.stage = cc in
      let two : no_words ≡ work.words = cc in
      let event : call_of nester work.stage work.words ≡ hold nester slot = λ i. call_of nester (sym one i) (sym two i) in
      subst (λ e. IsSound (after w e)) event (first_sound (checkpoint slot) nester _ _ work.events v t work.run)

  saved : (v : World) (t : checkpoints.State) (end : checkpoints.End) → AtWork (checkpoint slot) nester w Holds v t → (checkpoint slot).head t ≡ Stops end
      → IsSaved nester slot w v end
  saved v t end work stops = record {
    ends = checkpoint_ends_as_it_was slot birth w v nester t end low may work stops;
    saves = λ image is save. checkpoint_images_subtree slot birth w v nester t image low may save work (stops ∙ ap (λ (e : checkpoints.End). Stops e) is);
    same = checkpoint_keeps_cut slot birth w v nester t low may work;
    unheld = λ space. (checkpoint_leaves_rest slot birth w nester low may (hold_sound v t work)).ends v t end work stops space;
    sound = now_sound (checkpoint slot) nester w Holds v t work;
    clean = (checkpoint_meets_contract slot birth low).ends w nester v t end may work stops;
  }

  -- where the machine of both is at a checkpoint and stops, it ends as that does
  save_ends : (v : World) (t : State) (s : checkpoints.State) (finish : Finish) → t ≡ Checking slot s → AtWork (checkpoint slot) nester w Holds v s
      → machine.head t ≡ Stops (finish_of finish) → Saves nester slot w v finish
  save_ends v t s finish is work stops =
      let stop = stops_part (checkpoint slot) machine (Checking slot) Checked nester (checkpoint_part slot) t s (finish_of finish) is stops in
      record { end = stop.0; is = sym stop.2; its = saved v s stop.0 work stop.1 }

  save_under : (v : World) (t : State) (finish : Finish) → IsUnderWay nester w (Checking slot Holds) v t → machine.head t ≡ Stops (finish_of finish)
      → Saves nester slot w v finish
  save_under _ _ finish Begins stops = cc
  save_under _ _ finish (Works v t work) stops =
      let its = works (checkpoint slot) machine (Checking slot) Checked nester (checkpoint_part slot) w Holds v t work in
      save_ends v t its.state finish its.is its.part stops

  pub save_comes : (t : State) (v : World) (finish : Finish) → t ≡ Checking slot Holds → ComesTo birth w t v finish → Saves nester slot w v finish
  save_comes t v finish is comes =
      let goes = subst (λ (q : State). GoesOn birth w q v comes.state) is comes.goes in
      save_under v comes.state finish (goes nester w (Checking slot Holds) may save_contract Begins) comes.stops

-- ---- a restore

module _ (slot birth : ℕ) (image : Image) (pairs : List (ℕ × ℕ)) (w : World) (nester : Path) (job : IsRestoreJob slot image pairs)
    (may : MayBegin w nester birth) where
  image_contract : MeetsContract (restore_of slot image pairs) birth Makes
  image_contract = restore_meets_contract slot birth (bound_by pairs) (picture image) (rooms_of image) job.low (roomed slot image pairs job)

  restore_contract : MeetsContract machine birth (Restoring slot pairs image Makes)
  restore_contract = parts_meet_contract (restore_of slot image pairs) machine (Restoring slot pairs image) Restored birth Makes (restore_part slot pairs image) image_contract

  restored : (v : World) (t : restores.State) (end : restores.End) → AtWork (restore_of slot image pairs) nester w Makes v t
      → (restore_of slot image pairs).head t ≡ Stops end → IsRestored nester slot pairs image w v end
  restored v t end work stops = record {
    ends = image_restore_ends_so slot birth image pairs w v nester t end job may work stops;
    plain = λ done. ((image_is_restored slot birth image pairs w nester job).gives v t end may work stops (ap restores.is_done done)).0;
    sound = now_sound (restore_of slot image pairs) nester w Makes v t work;
    clean = image_contract.ends w nester v t end may work stops;
  }

  restore_ends : (v : World) (t : State) (s : restores.State) (finish : Finish) → t ≡ Restoring slot pairs image s
      → AtWork (restore_of slot image pairs) nester w Makes v s → machine.head t ≡ Stops (finish_of finish) → Restores nester slot pairs image w v finish
  restore_ends v t s finish is work stops =
      let stop = stops_part (restore_of slot image pairs) machine (Restoring slot pairs image) Restored nester (restore_part slot pairs image) t s
      (finish_of finish) is stops in
      record { end = stop.0; is = sym stop.2; its = restored v s stop.0 work stop.1 }

  restore_under : (v : World) (t : State) (finish : Finish) → IsUnderWay nester w (Restoring slot pairs image Makes) v t → machine.head t ≡ Stops (finish_of finish)
      → Restores nester slot pairs image w v finish
  restore_under _ _ finish Begins stops = cc
  restore_under _ _ finish (Works v t work) stops =
      let its = works (restore_of slot image pairs) machine (Restoring slot pairs image) Restored nester (restore_part slot pairs image) w Makes v t work in
      restore_ends v t its.state finish its.is its.part stops

  pub restore_comes : (t : State) (v : World) (finish : Finish) → t ≡ Restoring slot pairs image Makes → ComesTo birth w t v finish
      → Restores nester slot pairs image w v finish
  restore_comes t v finish is comes =
      let goes = subst (λ (q : State). GoesOn birth w q v comes.state) is comes.goes in
      restore_under v comes.state finish (goes nester w (Restoring slot pairs image Makes) may restore_contract Begins) comes.stops

-- ---- a copy

pub copy_goes_on : CopyGoesOn
copy_goes_on nester other slot place pairs image w v u x sound save saved restored ms =
    let plain = closed_is_plain w nester slot sound.whole sound.savable save.uncut save.users saved.ends.1 in
    let picture_is = (saved.saves image refl save).1 in
    restored_goes_on w x nester other slot place (bound_by pairs) ms plain (restored.ends.1 ∙ ap (λ c. rebound (bound_by pairs) c) picture_is)
