-- Each call for which a porter asks is fit.
use Rattle.std.proofs.Common.{◌≡◌, ℕ, ◌≤◌, true, List, [], ◌∷◌, Option, None, refl, sym, subst}
use Rattle.fk_model.specs.declared.limits.TheConstants.{LAST_USER_SLOT, LAST_PORTER_SLOT}
use Rattle.fk_model.specs.declared.moves.Ask.TheVariants as asks
use Rattle.fk_model.specs.Valid.{is_fit}
use Rattle.fk_model.specs.World.{World}
use Rattle.fk_image.specs.declared.image.image.Image.{Image}
use Rattle.fk_image.specs.Image.Picture.{picture}
use Rattle.laws_jobs.specs.Machines.{Head}
use Rattle.laws_jobs.specs.Machines.Head.{Asks}
use Rattle.laws_checkpoint.specs.Checkpoint as checks
use Rattle.laws_checkpoint.proofs.Ended.{checkpoint_meets_contract}
use Rattle.laws_restore.specs.Restore.Restore as restores
use Rattle.laws_restore.specs.Rooms.Rooms.{rooms_of}
use Rattle.laws_restore.specs.Rooms.Restoring.{bound_by}
use Rattle.laws_restore.proofs.InRestore.Owing.{meets_contract}
use Rattle.laws_restore.proofs.InRooms.Restored.{roomed}
use Rattle.laws_handover.specs.NearSide.{Near}
use Rattle.laws_handover.specs.FarSide.{Far}
use Rattle.laws_handover.specs.Handover.{first}
use Rattle.laws_migrate.specs.Migration.{Why, Job, top, kernels}
use Rattle.laws_migrate.specs.Fits.{IsCallFit, IsNearFit, IsFarFit, CallsAreFit}
use Rattle.laws_migrate.proofs.Nears.{NearAt, image_job}
use Rattle.laws_migrate.proofs.Fars.{FarAt, MakesAt}
use Rattle.laws_migrate.proofs.Migrates.{first_stands, run_stands}

first_near : (slot : ℕ) (v : World) → IsCallFit v (checks.head slot checks.Holds)
unfolding is_fit
first_near slot v = refl

first_far : (slot : ℕ) (v : World) → IsCallFit v (restores.head slot restores.Makes)
unfolding is_fit
first_far slot v = refl

asked_so : {A : Type 0} (v : World) (h : Head A) (stage : _) (words : List ℕ) → h ≡ Asks stage words
    → is_fit v (LAST_PORTER_SLOT ∷ top) (asks.Call stage words) ≡ true → IsCallFit v h
asked_so {A = A} v h stage words e fit = subst (λ (x : Head A). IsCallFit v x) (sym e) fit

module _ (P : Type 0) (slot : ℕ) (low : slot ≤ LAST_USER_SLOT) where
  near_fit : (n : ℕ) (o : Option World) (v : World) (s : Near checks.State Image Why) → NearAt slot low n o v s → IsNearFit slot v s
  near_fit _ _ v _ (NearAt.Fresh _ fresh) = first_near slot v
  near_fit _ _ v _ (NearAt.Saving n w _ s began work going works) =
      asked_so v (checks.head slot s) works.0 works.1 works.2
      ((checkpoint_meets_contract slot began.birth low).later w top v s began.may work.work works.0 works.1 works.2).proper.fit
  near_fit _ _ v _ (NearAt.Waiting n w _ image began work) = tt
  near_fit _ _ v _ (NearAt.Clearing n w _ image more number m u began of named sound left before spends) = tt
  near_fit _ _ v _ (NearAt.Cleared n w _ image number m u began of named sound spent before spends) = tt
  near_fit _ _ v _ (NearAt.Cancelling n w _ image why began work) = tt
  near_fit _ _ v _ (NearAt.Cancelled n w u _ image why began of work sound) = tt
  near_fit _ _ v _ (NearAt.Failed n w u _ end why began work is sound) = tt

  makes_fit : (image : Image) (n : ℕ) (o : Option World) (v : World) (s : restores.State) → MakesAt P slot low image n o v s
      → IsCallFit v (restores.head slot s)
  makes_fit image _ _ v _ (MakesAt.Begins _ valid empty) = first_far slot v
  makes_fit image _ _ v _ (MakesAt.Goes_on n w _ s valid began work going works copy) =
      let tidy = meets_contract slot began.birth (bound_by []) (picture image) (rooms_of image) low (roomed slot image [] (image_job slot low image valid)) in
      asked_so v (restores.head slot s) works.0 works.1 works.2 (tidy.later w top v s began.may work.work works.0 works.1 works.2).proper.fit

  far_fit : (n : ℕ) (o : Option World) (v : World) (f : Far Job Image P Why) → FarAt P slot low n o v f → IsFarFit slot v f
  far_fit _ _ v _ (FarAt.Making n o _ image s makes) = makes_fit image n o v s makes
  far_fit _ _ v _ (FarAt.Undoing n o _ image s makes) = makes_fit image n o v s makes
  far_fit _ _ v _ (FarAt.Listening _ got empty) = tt
  far_fit _ _ v _ (FarAt.Standing n w _ image stands) = tt
  far_fit _ _ v _ (FarAt.Releasing n w _ image stands) = tt
  far_fit _ _ v _ (FarAt.Moved n w u _ image valid began work sound) = tt
  far_fit _ _ v _ (FarAt.Refused n w _ image end why ended says sound spent) = tt
  far_fit _ _ v _ (FarAt.Clearing n w _ image more ready its sound) = tt
  far_fit _ _ v _ (FarAt.Never _ sound) = tt
  far_fit _ _ v _ (FarAt.Undone n w _ image end ended sound spent) = tt
  far_fit _ _ v _ (FarAt.Cleared n w _ image ready cleared sound spent) = tt

pub calls_are_fit : (P : Type 0) → CallsAreFit P
calls_are_fit P codec slot w v es good may ready =
    let stands = run_stands codec slot may.low good 0 0 None None (first (kernels codec slot) w v) es ready (first_stands codec slot may.low good w v may) in (
      near_fit P slot may.low _ _ _ _ stands.near,
      far_fit P slot may.low _ _ _ _ stands.far,
    )
