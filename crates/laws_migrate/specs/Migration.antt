-- The migration of the subtree in a slot of one kernel's root to the same slot of another's: the handover, with the porters' own machines and worlds.
use Rattle.std.specs.Prelude.{◌≡◌, ℕ, suc, ◌+◌, ◌<◌, ◌≤◌, Bool, true, false, List, [], ◌∷◌, ◌++◌, length, Option, Some, None, if◌then◌else◌}
use Rattle.fk_model.specs.declared.limits.TheConstants.{LAST_USER_SLOT, LAST_PORTER_SLOT}
use Rattle.fk_model.specs.declared.stage.Stage.TheVariants.{SpaceMakeHeld}
use Rattle.fk_model.specs.Places.{Path}
use Rattle.fk_model.specs.Places.Ptr.{At}
use Rattle.fk_model.specs.Objects.{holds, is_served}
use Rattle.fk_model.specs.Closed.{Place}
use Rattle.fk_model.specs.Holds.{holder_of}
use Rattle.fk_model.specs.Runs.{Event, after}
use Rattle.fk_model.specs.Searches.{depth}
use Rattle.fk_model.specs.StateRows.{is_native}
use Rattle.fk_model.specs.Valid.{birth_at}
use Rattle.fk_model.specs.World.{World}
use Rattle.fk_model.specs.Sound.{IsUncut, IsClean}
use Rattle.fk_image.specs.declared.image.image.Image.{Image}
use Rattle.laws_moves.specs.Frozen.Holding.{IsUsersMove}
use Rattle.laws_moves.specs.Savable.Savable.{IsSound}
use Rattle.laws_moves.specs.Whole.Runnable.{has_all_words}
use Rattle.laws_jobs.specs.Holds.{release}
use Rattle.laws_jobs.specs.Machines.{no_words, Head, Machine, heard, said_of, call_of, IsReadyAt}
use Rattle.laws_jobs.specs.Machines.Head.{Stops, Asks}
use Rattle.laws_checkpoint.specs.Checkpoint as checks
use Rattle.laws_checkpoint.specs.Checkpoint.{checkpoint}
use Rattle.laws_restore.specs.Restore.Restore as restores
use Rattle.laws_restore.specs.Restore.Restore.{objects}
use Rattle.laws_restore.specs.Rooms.Rooms.{rooms_of}
use Rattle.laws_restore.specs.Rooms.Restoring.{restore_of}
use Rattle.laws_handover.specs.Packets.{Codec}
use Rattle.laws_handover.specs.NearSide as near
use Rattle.laws_handover.specs.NearSide.{Near, Saved, NearKernel}
use Rattle.laws_handover.specs.FarSide as far
use Rattle.laws_handover.specs.FarSide.{Far, Made, FarKernel}
use Rattle.laws_handover.specs.Sent.{sent_near, sent_far}
use Rattle.laws_handover.specs.Handover as handover
use Rattle.laws_handover.specs.Handover.{Kernels, Pair, next, run, first}
use Rattle.laws_migrate.specs.Clearing.{destroying}

-- why a subtree is kept
pub data Why : Type 0 where
  Dead : Why
  Foreign : (place : Place) → Why
  Occupied : Why
  NoPort : (port : ℕ) → Why
  GaveUp : Why

-- both porters are those of the roots
abbrev pub top : Path
top = []

-- a call of a machine, and what becomes of it
abbrev pub called : {A : Type 0} → World → Head A → World
called w (Asks stage words) = after w (call_of top stage words)
called w (Stops end) = w

abbrev pub told : {S A : Type 0} → Machine S A → World → S → Head A → S
told m w s (Asks stage words) = heard m s (said_of w (call_of top stage words))
told m w s (Stops end) = s

-- ---- the near side: a checkpoint as far as its release

abbrev pub checked_end : checks.End → Saved checks.State Image Why
checked_end checks.Gone = near.Fails Dead
checked_end (checks.Foreign place) = near.Fails (Foreign place)
checked_end (checks.Done image) = near.Fails GaveUp

abbrev pub checked_release : checks.End → Saved checks.State Image Why
checked_release checks.Gone = near.Goes (checks.Releases checks.Gone)
checked_release (checks.Foreign place) = near.Goes (checks.Releases (checks.Foreign place))
checked_release (checks.Done image) = near.Gathers image

abbrev pub checked : checks.State → Saved checks.State Image Why
checked (checks.Releases end) = checked_release end
checked (checks.Over end) = checked_end end
checked checks.Holds = near.Goes checks.Holds
checked (checks.Readies r rest) = near.Goes (checks.Readies r rest)
checked (checks.Walks s) = near.Goes (checks.Walks s)
checked (checks.Seeks mets s) = near.Goes (checks.Seeks mets s)
checked (checks.Reads s) = near.Goes (checks.Reads s)
checked (checks.Gathers contents s) = near.Goes (checks.Gathers contents s)
checked (checks.Drops r rest end) = near.Goes (checks.Drops r rest end)

abbrev pub near_kernel : ℕ → NearKernel World Event checks.State Image Why
near_kernel slot = record {
  others = after;
  begins = checks.Holds;
  saves = λ w s. called w (checks.head slot s);
  saved = λ w s. checked (told (checkpoint slot) w s (checks.head slot s));
  stages = λ image. objects (rooms_of image);
  clears = λ w. after w (destroying top slot);
  releases = λ w. after w (release top slot);
}

-- ---- the far side: a restore as far as its release, with nothing bound

abbrev pub made_end : restores.End → Made restores.State Why
made_end restores.Done = far.Fails GaveUp
made_end restores.Occupied = far.Fails Occupied
made_end (restores.NoPort port) = far.Fails (NoPort port)

abbrev pub made : restores.State → Made restores.State Why
made (restores.Works []) = far.Builds
made (restores.Works (o ∷ os)) = far.Goes (restores.Works (o ∷ os))
made restores.Makes = far.Goes restores.Makes
made (restores.Clears os more port) = far.Goes (restores.Clears os more port)
made (restores.Over end) = made_end end

-- a restore and the image of which it knows
pub record Job : Type 0 where
  pub image : Image
  pub state : restores.State

abbrev pub of_job : Image → Made restores.State Why → Made Job Why
of_job image (far.Goes s) = far.Goes (record { image = image; state = s })
of_job image far.Builds = far.Builds
of_job image (far.Fails why) = far.Fails why

abbrev pub far_kernel : ℕ → FarKernel World Event Job Image Why
far_kernel slot = record {
  others = after;
  begins = λ image. record { image = image; state = restores.Makes };
  makes = λ v j. called v (restores.head slot j.state);
  made = λ v j. of_job j.image (made (told (restore_of slot j.image []) v j.state (restores.head slot j.state)));
  stages = λ image. objects (rooms_of image);
  clears = λ v. after v (destroying top slot);
  releases = λ v. after v (release top slot);
}

-- ---- which events are ready

abbrev pub HasRoom : World → Type 0
HasRoom w = w.next + 1 ≤ depth

-- a move of a user or a native server
pub record IsOthers (w : World) (e : Event) : Type 0 where
  pub moves : IsUsersMove top w e
  pub words : has_all_words e.ask ≡ true
  pub room : HasRoom w

abbrev pub IsCalled : {A : Type 0} → World → Head A → Type 0
IsCalled w (Asks stage words) = IsReadyAt w (call_of top stage words)
IsCalled w (Stops end) = ⊥

abbrev pub IsNearReady : ℕ → World → Near checks.State Image Why → Type 0
IsNearReady slot w (near.Saves s) = IsCalled w (checks.head slot s)
IsNearReady slot w (near.Clears image more) = IsReadyAt w (destroying top slot)
IsNearReady slot w (near.Cancels image why) = IsReadyAt w (release top slot)
IsNearReady slot w (near.Waits image) = ⊥
IsNearReady slot w (near.Cleared image) = ⊥
IsNearReady slot w (near.Cancelled image why) = ⊥
IsNearReady slot w (near.Failed why) = ⊥

abbrev pub IsFarReady : {P : Type 0} → ℕ → World → Far Job Image P Why → Type 0
IsFarReady slot v (far.Makes image j) = IsCalled v (restores.head slot j.state)
IsFarReady slot v (far.Releases image) = IsReadyAt v (release top slot)
IsFarReady slot v (far.Undoes image j) = IsCalled v (restores.head slot j.state)
IsFarReady slot v (far.Clears image more ready) = IsReadyAt v (destroying top slot)
IsFarReady slot v (far.Listens got) = ⊥
IsFarReady slot v (far.Built image) = ⊥
IsFarReady slot v (far.Moved image) = ⊥
IsFarReady slot v (far.Refuses image why) = ⊥
IsFarReady slot v (far.Ended image ready) = ⊥

-- the near side waits, so that it may give up
abbrev pub may_give_up : Near checks.State Image Why → Type 0
may_give_up (near.Waits image) = Unit {0}
may_give_up other = ⊥

module _ {P : Type 0} (codec : Codec Image P) (slot : ℕ) where
  abbrev pub kernels : Kernels World Event checks.State World Event Job Image P Why
  kernels = record { near = near_kernel slot; far = far_kernel slot; codec = codec; gave_up = GaveUp }

  abbrev pub Both : Type 0
  Both = Pair World checks.State World Job Image P Why

  abbrev pub Step : Type 0
  Step = handover.Event Event Event

  abbrev pub IsReadyIn : Both → Step → Type 0
  IsReadyIn p (handover.OfNear e) = IsOthers p.near_world e
  IsReadyIn p (handover.OfFar e) = IsOthers p.far_world e
  IsReadyIn p handover.NearOwn = IsNearReady slot p.near_world p.near × HasRoom p.near_world
  IsReadyIn p handover.FarOwn = IsFarReady slot p.far_world p.far × HasRoom p.far_world
  IsReadyIn p (handover.ToFar number) = number < length (sent_near codec p.near)
  IsReadyIn p (handover.ToNear number) = number < length (sent_far p.far)
  IsReadyIn p handover.GiveUp = may_give_up p.near

  -- each is ready at its place
  abbrev pub AreReady : Both → List Step → Type 0
  AreReady p [] = Unit {0}
  AreReady p (e ∷ es) = IsReadyIn p e × AreReady (next kernels p e) es

  -- ---- the world of a side as its porter made its first call: the near one at the hold, the far one at the make

  abbrev pub near_asked : Both → Step → Option World
  near_asked p handover.NearOwn = Some p.near_world
  near_asked p (handover.OfNear e) = None
  near_asked p (handover.OfFar e) = None
  near_asked p handover.FarOwn = None
  near_asked p (handover.ToFar number) = None
  near_asked p (handover.ToNear number) = None
  near_asked p handover.GiveUp = None

  abbrev pub far_asked : Both → Step → Option World
  far_asked p handover.FarOwn = Some p.far_world
  far_asked p (handover.OfNear e) = None
  far_asked p (handover.OfFar e) = None
  far_asked p handover.NearOwn = None
  far_asked p (handover.ToFar number) = None
  far_asked p (handover.ToNear number) = None
  far_asked p handover.GiveUp = None

  abbrev pub noted : (Both → Step → Option World) → Option World → Both → Step → Option World
  noted asked (Some w) p e = Some w
  noted asked None p e = asked p e

  abbrev pub asked_from : (Both → Step → Option World) → Option World → Both → List Step → Option World
  asked_from asked o p [] = o
  asked_from asked o p (e ∷ es) = asked_from asked (noted asked o p e) (next kernels p e) es

  abbrev pub hold_from : Option World → Both → List Step → Option World
  hold_from o p es = asked_from near_asked o p es

  abbrev pub make_from : Option World → Both → List Step → Option World
  make_from o p es = asked_from far_asked o p es

-- the space that a make in this world makes has this number
pub record MakesCopy (slot : ℕ) (m : World) (copy : ℕ) : Type 0 where
  pub empty : m.body (slot ∷ top) ≡ None
  pub named : birth_at (after m (call_of top (SpaceMakeHeld slot) no_words)) (slot ∷ top) ≡ Some copy

-- ---- how many calls a porter has made

abbrev pub is_near_own : {E F : Type 0} → handover.Event E F → Bool
is_near_own handover.NearOwn = true
is_near_own (handover.OfNear e) = false
is_near_own (handover.OfFar e) = false
is_near_own handover.FarOwn = false
is_near_own (handover.ToFar number) = false
is_near_own (handover.ToNear number) = false
is_near_own handover.GiveUp = false

abbrev pub is_far_own : {E F : Type 0} → handover.Event E F → Bool
is_far_own handover.FarOwn = true
is_far_own (handover.OfNear e) = false
is_far_own (handover.OfFar e) = false
is_far_own handover.NearOwn = false
is_far_own (handover.ToFar number) = false
is_far_own (handover.ToNear number) = false
is_far_own handover.GiveUp = false

abbrev pub counted : {E F : Type 0} → (handover.Event E F → Bool) → ℕ → handover.Event E F → ℕ
counted own n e = if own e then suc n else n

abbrev pub counted_from : {E F : Type 0} → (handover.Event E F → Bool) → ℕ → List (handover.Event E F) → ℕ
counted_from own n [] = n
counted_from own n (e ∷ es) = counted_from own (counted own n e) es

-- ---- the two worlds at the beginning

pub record MayMigrate (slot : ℕ) (w v : World) : Type 0 where
  pub low : slot ≤ LAST_USER_SLOT
  pub near : IsSound w
  pub far : IsSound v
  pub near_clean : IsClean w
  pub far_clean : IsClean v
  pub near_uncut : IsUncut w
  pub far_uncut : IsUncut v
  -- beneath the slot; in it there may be any object
  pub no_porter : (k : ℕ) (q : Path) → holds is_native (w.body (k ∷ (q ++ slot ∷ top))) ≡ false
  pub unserved : (k : ℕ) (q : Path) → holds is_served (w.body (k ∷ (q ++ slot ∷ top))) ≡ false

-- the space with this number lives, and the root's porter doesn't hold it
abbrev pub IsFree : World → ℕ → Type 0
IsFree w number = (x : Path) × (birth_at w x ≡ Some number) × (holder_of (w.body x) ≡ Some (At (LAST_PORTER_SLOT ∷ top)) → ⊥)
