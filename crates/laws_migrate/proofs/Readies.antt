-- The next call of a porter is ready.
use Rattle.std.proofs.Common.{◌≡◌, ℕ, ◌≤◌, Bool, true, false, cond, not, ◌&&◌, ◌⊎◌, inl, inr, is_some, List, [], ◌∷◌, Option, Some, None, refl, sym, subst}
use Rattle.std.proofs.Common.{arith}
use Rattle.std.proofs.lemmas.Bool.{le-leb}
use Rattle.fk_model.specs.declared.limits.TheConstants.{OWN_SPACE, LAST_USER_SLOT, LAST_PORTER_SLOT}
use Rattle.fk_model.specs.declared.stage.Stage.{Stage}
use Rattle.fk_model.specs.declared.stage.Stage.TheVariants.{SpaceMakeHeld, SpaceRelease}
use Rattle.fk_model.specs.declared.statuses.status.TheConstants.{OK, OCCUPIED}
use Rattle.fk_model.specs.Places.{Path, same_path, strip}
use Rattle.fk_model.specs.Places.Ptr.{At}
use Rattle.fk_model.specs.Objects.{Body, thread_of, and_then, holds}
use Rattle.fk_model.specs.Objects.Body.{Mutex, Cond, Mapping, Region, Port, Portset, Space, Thread_of, Reference}
use Rattle.fk_model.specs.World.{World}
use Rattle.fk_model.specs.World.Change.{MakeSpace}
use Rattle.fk_model.specs.Holds.{holder_of, decider, is_frozen_for, is_porter}
use Rattle.fk_model.specs.StateRows.{is_native}
use Rattle.fk_model.specs.SpaceRows.{space_make_held}
use Rattle.fk_model.specs.Outcomes.{Outcome, refuse, done, ◌>>=◌}
use Rattle.fk_model.specs.Outcomes.Said.{Answered}
use Rattle.fk_model.specs.Outcomes.Outcome.{Waits, Goes}
use Rattle.fk_model.specs.Moves.{closed, with_pick, call_row, porter_move, outcome, GoesAllowed}
use Rattle.fk_image.specs.declared.image.image.Image.{Image}
use Rattle.fk_image.specs.Image.Picture.{picture}
use Rattle.laws_jobs.specs.Calls.{IsUnheldOutside}
use Rattle.laws_jobs.specs.Machines.{Head, porter, no_words, call_of, IsReadyAt}
use Rattle.laws_jobs.specs.Machines.Head.{Asks}
use Rattle.laws_checkpoint.specs.Checkpoint as checks
use Rattle.laws_checkpoint.specs.Checkpoint.{checkpoint}
use Rattle.laws_restore.specs.Restore.Restore as restores
use Rattle.laws_restore.specs.Rooms.Rooms.{rooms_of}
use Rattle.laws_restore.specs.Rooms.Restoring.{bound_by}
use Rattle.laws_restore.proofs.InRooms.Restored.{roomed}
use Rattle.laws_restore.proofs.InRestore.Readied.{is_ready}
use Rattle.laws_checkpoint.proofs.Calling.{checkpoint_is_ready}
use Rattle.laws_handover.specs.Packets.{Codec}
use Rattle.laws_handover.specs.NearSide.{Near}
use Rattle.laws_handover.specs.FarSide.{Far}
use Rattle.laws_handover.specs.Handover as handover
use Rattle.laws_handover.specs.Handover.{run, first}
use Rattle.laws_handover.specs.Laws.{is_over, near_asks, far_asks}
use Rattle.laws_handover.proofs.Meets.{goes_on_so}
use Rattle.laws_migrate.specs.Migration.{Why, Job, top, kernels, Both, Step, IsCalled, IsNearReady, IsFarReady, IsReadyIn, make_from, is_near_own, is_far_own}
use Rattle.laws_migrate.specs.Migration.{counted_from}
use Rattle.laws_migrate.specs.Laws.{IsGoodCodec, Happens}
use Rattle.laws_migrate.specs.Readies.{FirstIsReady, MigrationIsReady}
use Rattle.laws_migrate.specs.Porters.{HasPorter, IsCalmNow, MigrationGoesOn}
use Rattle.laws_migrate.proofs.Unmade.{is_first, is_unmade, unmade_has_porter}
use Rattle.laws_migrate.proofs.Clearing.{left_ready}
use Rattle.laws_migrate.proofs.Nears.{NearAt, image_job}
use Rattle.laws_migrate.proofs.Fars.{FarAt, MakesAt}
use Rattle.laws_migrate.proofs.Migrates.{stands_here, exactly}

-- ---- the first call of a restore

module _ (slot : ℕ) (v : World) (low : slot ≤ LAST_USER_SLOT) (native : holds is_native (v.body (LAST_PORTER_SLOT ∷ top)) ≡ true)
    (calm : IsUnheldOutside (slot ∷ top) v) where
  abbrev root : Path
  root = slot ∷ top

  abbrev me : Path
  me = LAST_PORTER_SLOT ∷ top

  top_unheld : holder_of (v.body top) ≡ None
  unfolding strip same_path
  top_unheld = calm top refl

  top_free : decider v top ≡ None
  unfolding decider
  top_free = top_unheld

  me_unheld : holder_of (v.body me) ≡ None
  me_unheld = by (v.body me) native
    where
      by : (o : Option Body) → holds is_native o ≡ true → holder_of o ≡ None
      by (Some (Thread_of t)) h = refl
      by (Some (Mutex locked)) h = refl
      by (Some Cond) h = refl
      by (Some (Mapping m)) h = refl
      by (Some (Region r)) h = refl
      by (Some (Port set served)) h = refl
      by (Some Portset) h = refl
      by (Some (Space birth holder)) h = cc
      by (Some (Reference to)) h = refl
      by None h = refl

  me_free : is_frozen_for v me me ≡ false
  unfolding decider
  me_free = rw (top_unheld, me_unheld) refl

  root_free : v.body root ≡ None → is_frozen_for v me root ≡ false
  unfolding decider
  root_free e = rw (top_unheld, e) refl

  abbrev made_as : Option Body → Outcome
  made_as None = Goes (MakeSpace root (Some (At me)) ∷ []) (Answered OK [])
  made_as (Some b) = Goes [] (Answered OCCUPIED [])

  abbrev call_on : Option Body → Outcome
  call_on o = closed (porter top no_words) (with_pick false None (refuse OCCUPIED (is_some o)
      >>= (λ u. done (porter top no_words) (MakeSpace root (Some (At me)) ∷ []) [])))

  call_made : (o : Option Body) → call_on o ≡ made_as o
  call_made None = refl
  call_made (Some b) = refl

  row : call_row v (porter top no_words) None (SpaceMakeHeld slot) ≡ made_as (v.body root)
  unfolding call_row space_make_held
  row = rw (le-leb slot LAST_PORTER_SLOT (omega (arith, low))) (call_made (v.body root))

  allowed : (o : Option Body) → v.body root ≡ o → GoesAllowed v me (made_as o)
  allowed (Some b) e = tt
  allowed None e = (record { object = root_free e; made = rw me_free refl }, tt)

  pub first_is_ready : IsReadyAt v (call_of top (SpaceMakeHeld slot) no_words)
  unfolding outcome
  first_is_ready = by (v.body me) native
    where
      by_native : (t : Bool) → t ≡ true
          → GoesAllowed v me (cond (t && not (is_some (decider v top))) (call_row v (porter top no_words) None (SpaceMakeHeld slot)) Waits)
      by_native t h = rw (h, top_free, row) (allowed (v.body root) refl)

      by : (body : Option Body) → holds is_native body ≡ true → GoesAllowed v me (porter_move v me None (SpaceMakeHeld slot) no_words (and_then thread_of body))
      by (Some (Thread_of t)) h = by_native (is_porter t.mode) h
      by (Some (Mutex locked)) h = cc
      by (Some Cond) h = cc
      by (Some (Mapping m)) h = cc
      by (Some (Region r)) h = cc
      by (Some (Port set served)) h = cc
      by (Some Portset) h = cc
      by (Some (Space birth holder)) h = cc
      by (Some (Reference to)) h = cc
      by None h = cc

pub first_ready : FirstIsReady
first_ready slot v low native calm = first_is_ready slot v low native calm

-- ---- each side

module _ {P : Type 0} (codec : Codec Image P) (slot : ℕ) (low : slot ≤ LAST_USER_SLOT) where
  called_by : {A : Type 0} (u : World) (h : Head A) (stage : Stage) (words : List ℕ) → h ≡ Asks stage words → IsReadyAt u (call_of top stage words)
      → IsCalled u h
  called_by u h stage words e ready = subst (IsCalled u) (sym e) ready

  near_ready : (c : ℕ) (o : Option World) (u : World) (n : Near checks.State Image Why) → NearAt slot low c o u n → (o ≡ None → ⊥) → IsUnheldOutside
      (slot ∷ top) u
      → near_asks n ≡ true → IsNearReady slot u n
  near_ready _ _ u _ (NearAt.Saving n w _ s began work going works) held calm asks =
      called_by u (checks.head slot s) works.0 works.1 works.2
      (checkpoint_is_ready slot began.birth w u top s works.0 works.1 low began.may work.work works.2 calm)
  near_ready _ _ u _ (NearAt.Clearing n w _ image more number m x began of named sound left before spends) held calm asks =
      left_ready top slot number u more sound calm left
  near_ready _ _ u _ (NearAt.Cancelling n w _ image why began work) held calm asks =
      checkpoint_is_ready slot began.birth w u top (checks.Releases (checks.Done image))
      (SpaceRelease OWN_SPACE slot) no_words low began.may work.work refl calm
  near_ready _ _ u _ (NearAt.Fresh _ fresh) held calm asks = absurd (held refl)
  near_ready _ _ u _ (NearAt.Waiting n w _ image began work) held calm asks = cc
  near_ready _ _ u _ (NearAt.Cleared n w _ image number m x began of named sound spent before spends) held calm asks = cc
  near_ready _ _ u _ (NearAt.Cancelled n w x _ image why began of work sound) held calm asks = cc
  near_ready _ _ u _ (NearAt.Failed n w x _ end why began work is sound) held calm asks = cc

  makes_ready : (image : Image) (n : ℕ) (o : Option World) (u : World) (s : restores.State) → MakesAt P slot low image n o u s
      → (is_first s ≡ true → HasPorter u) → IsUnheldOutside (slot ∷ top) u → IsCalled u (restores.head slot s)
  makes_ready image _ _ u _ (MakesAt.Begins _ valid empty) native calm = first_is_ready slot u low (native refl) calm
  makes_ready image n _ u _ (MakesAt.Goes_on _ w _ s valid began work going works copy) native calm =
      called_by u (restores.head slot s) works.0 works.1 works.2
      (is_ready slot began.birth (bound_by []) (picture image) (rooms_of image) w u top s works.0 works.1 low
      (roomed slot image [] (image_job slot low image valid))
      began.may work.work works.2 calm)

  far_ready : (n : ℕ) (o : Option World) (u : World) (f : Far Job Image P Why) → FarAt P slot low n o u f → (is_unmade f ≡ true → HasPorter u)
      → IsUnheldOutside (slot ∷ top) u → far_asks f ≡ true → IsFarReady slot u f
  far_ready _ _ u _ (FarAt.Making n o _ image s makes) native calm asks = makes_ready image n o u s makes native calm
  far_ready _ _ u _ (FarAt.Undoing n o _ image s makes) native calm asks = makes_ready image n o u s makes native calm
  far_ready _ _ u _ (FarAt.Releasing n w _ image stands) native calm asks =
      is_ready slot stands.began.birth (bound_by []) (picture image) (rooms_of image) w u top (restores.Works []) (SpaceRelease OWN_SPACE slot) no_words low
      (roomed slot image [] (image_job slot low image stands.valid)) stands.began.may stands.work.work refl calm
  far_ready _ _ u _ (FarAt.Clearing n w _ image more told its sound) native calm asks = left_ready top slot its.number u more sound calm its.left
  far_ready _ _ u _ (FarAt.Listening _ got empty) native calm asks = cc
  far_ready _ _ u _ (FarAt.Standing n w _ image stands) native calm asks = cc
  far_ready _ _ u _ (FarAt.Moved n w x _ image valid began work sound) native calm asks = cc
  far_ready _ _ u _ (FarAt.Refused n w _ image end why ended says sound spent) native calm asks = cc
  far_ready _ _ u _ (FarAt.Never _ sound) native calm asks = cc
  far_ready _ _ u _ (FarAt.Undone n w _ image end ended sound spent) native calm asks = cc
  far_ready _ _ u _ (FarAt.Cleared n w _ image told cleared sound spent) native calm asks = cc

  module _ (good : IsGoodCodec codec) (w v : World) (es : List (Step codec slot)) (h : World) (its : Happens codec slot w v es h) where
    abbrev q : Both codec slot
    q = run (kernels codec slot) (first (kernels codec slot) w v) es

    abbrev held_world : Option World
    held_world = Some h

    held_not : held_world ≡ None → ⊥
    held_not e = cc

    pub is_ready_now : IsCalmNow codec slot q → (is_unmade q.far ≡ true → HasPorter q.far_world) → is_over q.near q.far ≡ false
        → IsReadyIn codec slot q handover.NearOwn ⊎ IsReadyIn codec slot q handover.FarOwn
    is_ready_now quiet porter over =
        by (goes_on_so (kernels codec slot) good.nothing w v es (exactly codec slot low good w v es h its) quiet.came over)
      where
        by : (near_asks q.near ≡ true) ⊎ (far_asks q.far ≡ true) → IsReadyIn codec slot q handover.NearOwn ⊎ IsReadyIn codec slot q handover.FarOwn
        by (inl asks) =
            inl (
              near_ready (counted_from is_near_own 0 es) (Some h) q.near_world q.near
                  (stands_here codec slot low good w v es h its).near held_not quiet.near asks,
              quiet.near_room,
            )
        by (inr asks) =
            inr (
              far_ready (counted_from is_far_own 0 es) (make_from codec slot None (first (kernels codec slot) w v) es) q.far_world q.far
                  (stands_here codec slot low good w v es h its).far porter quiet.far asks,
              quiet.far_room,
            )

pub migration_is_ready : {P : Type 0} → MigrationIsReady P
migration_is_ready codec slot w v es h its quiet over =
    is_ready_now codec slot its.may.low its.good w v es h its
    (record { came = quiet.came; near = quiet.near; far = quiet.far; near_room = quiet.near_room; far_room = quiet.far_room }) (λ unmade. quiet.porter) over

pub migration_goes_on : {P : Type 0} → MigrationGoesOn P
migration_goes_on codec slot w v es h its native calm over =
    is_ready_now codec slot its.may.low its.good w v es h its calm (unmade_has_porter codec slot w v es its.ready native) over
