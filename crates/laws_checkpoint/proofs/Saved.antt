-- A checkpoint that is done has the picture of its subtree, and so is what a run wants of it.
use Rattle.std.proofs.Common.{◌≡◌, ℕ, ◌≤◌, true, List, ◌∷◌, ◌++◌, map, Option, Some, sym, ap, subst, ◌∙◌}
use Rattle.fk_model.specs.declared.limits.TheConstants.{LAST_USER_SLOT}
use Rattle.fk_model.specs.Places.{Path}
use Rattle.fk_model.specs.World.{World}
use Rattle.fk_model.specs.Searches.{objects}
use Rattle.fk_model.specs.Cut.{cut}
use Rattle.fk_model.specs.Closed.{IsClosed}
use Rattle.fk_image.specs.declared.image.image.Image.{Image}
use Rattle.fk_image.specs.Image.Picture.{picture}
use Rattle.fk_image.specs.Image.Valid.{is_valid}
use Rattle.laws_moves.specs.Savable.Savable.{IsSound}
use Rattle.laws_pictures.specs.Imaged.{image_of}
use Rattle.laws_jobs.specs.Machines.{AtWork}
use Rattle.laws_jobs.specs.Machines.Head.{Stops}
use Rattle.laws_jobs.specs.Jobs.{MayBegin}
use Rattle.laws_jobs.specs.Leads.{held_world}
use Rattle.laws_jobs.specs.Holds.{Held}
use Rattle.laws_checkpoint.specs.Walk.{met}
use Rattle.laws_checkpoint.specs.Assembly.{spaces_met}
use Rattle.laws_checkpoint.specs.Narrow.{narrowed}
use Rattle.laws_checkpoint.specs.Checkpoint.{End, State, head, checkpoint}
use Rattle.laws_checkpoint.specs.Checkpoint.End.{Gone, Foreign, Done}
use Rattle.laws_checkpoint.specs.Checkpoint.State.{Holds}
use Rattle.laws_checkpoint.specs.Laws.{MaySave, CheckpointImagesSubtree, picture_of, CheckpointSaves}
use Rattle.laws_checkpoint.proofs.Tasks.{spaces_are}
use Rattle.laws_checkpoint.proofs.Working.{root_space, Verdict}
use Rattle.laws_checkpoint.proofs.Assembled.{assembled_is}
use Rattle.laws_checkpoint.proofs.Narrowed.{valid_is_narrow}
use Rattle.laws_checkpoint.proofs.Imaged.{none_high, has_image}
use Rattle.laws_checkpoint.proofs.Ended.{same_end, Came, came, cut_kept, ended_in, ends_as_it_was}
use Rattle.laws_checkpoint.proofs.Ended.Came.{NeverHeld, InPhase}

abbrev shown_as : World → Option World
shown_as x = Some x

abbrev spaces_of : World → List Path
spaces_of c = spaces_met (map (met c) (objects c))

module _ (slot birth : ℕ) (w : World) (nester : Path) (low : slot ≤ LAST_USER_SLOT) (may : MayBegin w nester birth) (save : MaySave w nester slot) where
  abbrev Imaged : Image → Type 0
  Imaged image = (is_valid image ≡ true) × (picture image ≡ cut w nester slot)

  of_image : IsClosed w nester slot → Imaged (image_of (cut w nester slot) (spaces_of (cut w nester slot)))
  of_image closed = has_image w nester slot may.sound may.clean save.uncut save.users closed

  pub of_verdict : (held : Held nester slot w) (sound : IsSound (held_world nester slot w)) (image : Image)
      → Verdict nester slot birth low w may held sound (Done image) → Imaged image
  of_verdict held sound image verdict =
      let start = held_world nester slot w in
      let c = cut start nester slot in
      let shown = assembled_is start nester slot (spaces_of c) (λ q t e. sound.savable.shaped (q ++ slot ∷ nester) t e)
      (λ q is. spaces_are c (root_space nester slot birth low w may held sound) q is)
      (λ q k high. ap (λ (d : World). d.body (k ∷ q)) held.cut ∙ none_high w nester slot may.sound may.clean save.uncut save.users verdict.0 q k high) in
      let imaged = of_image verdict.0 in
      let its = shown ∙ ap (λ (d : World). image_of d (spaces_of d)) held.cut in
      subst Imaged (sym (verdict.1 ∙ ap narrowed its ∙ valid_is_narrow (image_of (cut w nester slot) (spaces_of (cut w nester slot))) imaged.0)) imaged

  pub images_subtree : (v : World) (t : State) (image : Image) → Came slot birth w nester low may v t → head slot t ≡ Stops (Done image) → Imaged image
  images_subtree v t image (NeverHeld none same over) stops =
      let its : Gone ≡ Done image = same_end Gone (Done image) (sym (ap (head slot) over) ∙ stops) in
      cc
  images_subtree v t image (InPhase held sound phase) stops =
      of_verdict held sound image (ended_in slot birth w nester low may held sound v t (Done image) phase stops).0

pub checkpoint_images_subtree : CheckpointImagesSubtree
checkpoint_images_subtree slot birth w v nester t image low may save work stops =
    images_subtree slot birth w nester low may save v t image (came slot birth w nester low may v t work) stops

pub checkpoint_saves : CheckpointSaves
checkpoint_saves slot birth w nester low save = record {
  keeps = λ v t may work. cut_kept slot birth w nester low may v t (came slot birth w nester low may v t work);
  gives = λ v t end c may work stops pictured. by v t end c may work stops pictured;
}
  where
    same_world : (x y : World) → shown_as x ≡ Some y → x ≡ y
    same_world x y e = cc

    by : (v : World) (t : State) (end : End) (c : World) → MayBegin w nester birth → AtWork (checkpoint slot) nester w Holds v t → head slot t ≡ Stops end →
        picture_of end ≡ Some c → IsClosed w nester slot × (c ≡ cut w nester slot)
    by v t Gone c may work stops pictured = cc
    by v t (Foreign place) c may work stops pictured = cc
    by v t (Done image) c may work stops pictured =
        let at = came slot birth w nester low may v t work in (
          (ends_as_it_was slot birth w nester low may v t (Done image) at stops).1,
          sym (same_world (picture image) c pictured) ∙ (images_subtree slot birth w nester low may save v t image at stops).1,
        )
