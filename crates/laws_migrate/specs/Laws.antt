-- What a migration comes to, over every list of ready events.
use Rattle.std.specs.Prelude.{◌≡◌, ℕ, true, ◌⊎◌, IsSome, List, [], ◌∷◌, ◌++◌, Some, None}
use Rattle.fk_model.specs.Closed.{Place, open_place}
use Rattle.laws_jobs.specs.Holds.{IsSpaceAt}
use Rattle.laws_checkpoint.specs.Checkpoint.State.{Releases}
use Rattle.laws_checkpoint.specs.Checkpoint.End.{Foreign as OpenAt}
use Rattle.laws_migrate.specs.Migration.Why.{Dead, Foreign, Occupied, NoPort, GaveUp}
use Rattle.fk_model.specs.Cut.{cut}
use Rattle.fk_model.specs.Valid.{birth_at}
use Rattle.fk_model.specs.World.{World}
use Rattle.fk_image.specs.declared.image.image.Image.{Image}
use Rattle.fk_image.specs.Image.Valid.{is_valid}
use Rattle.laws_jobs.specs.Machines.{AtWork}
use Rattle.laws_restore.specs.Restore.Restore as restores
use Rattle.laws_restore.specs.Restore.Exact.{IsLowest, MissesFirst}
use Rattle.laws_restore.specs.Rooms.Rooms.{rooms_of}
use Rattle.laws_restore.specs.Rooms.Restoring.{bound_by, restore_of}
use Rattle.laws_handover.specs.Packets.{Codec}
use Rattle.laws_handover.specs.NearSide as near
use Rattle.laws_handover.specs.FarSide as far
use Rattle.laws_handover.specs.Handover as handover
use Rattle.laws_handover.specs.Handover.{next, run, first}
use Rattle.laws_handover.specs.Laws.{IsIn, IsExact, is_kept, why_cancelled}
use Rattle.laws_migrate.specs.Births.{HasNone}
use Rattle.laws_migrate.specs.Migration.{Why, top, kernels, Both, Step, IsReadyIn, AreReady, hold_from, make_from, MayMigrate, MakesCopy, IsFree}

-- what is wanted of the pieces: a valid image is read from all its pieces, in any order and again, and from fewer nothing or that image; and what is
-- read is valid
pub record IsGoodCodec {P : Type 0} (codec : Codec Image P) : Type 0 where
  pub exact : (i : Image) → is_valid i ≡ true → IsExact codec i
  pub valid : (got : List P) (i : Image) → codec.reads got ≡ Some i → is_valid i ≡ true
  pub nothing : codec.reads [] ≡ None

-- the pair after a list of events
abbrev pub pair_after : {P : Type 0} (codec : Codec Image P) (slot : ℕ) → World → World → List (Step codec slot) → Both codec slot
pair_after codec slot w v es = run (kernels codec slot) (first (kernels codec slot) w v) es

-- a list of events, each ready at its place, after which the near hold was asked in a world
pub record Happens {P : Type 0} (codec : Codec Image P) (slot : ℕ) (w v : World) (es : List (Step codec slot)) (h : World) : Type 0 where
  pub good : IsGoodCodec codec
  pub may : MayMigrate slot w v
  pub ready : AreReady codec slot (first (kernels codec slot) w v) es
  pub held : hold_from codec slot None (first (kernels codec slot) w v) es ≡ Some h

-- the space that stood in the slot at the hold, and the one that was made for the copy, never live both where neither is held by its porter
abbrev pub NeverBothFree : Type 0 → Type 0
NeverBothFree P = (codec : Codec Image P) (slot : ℕ) (w v : World) (es : List (Step codec slot)) (h m : World) (number copy : ℕ) → Happens codec slot w v es h →
    birth_at h (slot ∷ top) ≡ Some number → make_from codec slot None (first (kernels codec slot) w v) es ≡ Some m → MakesCopy slot m copy →
    IsFree (pair_after codec slot w v es).near_world number →
    IsFree (pair_after codec slot w v es).far_world copy → ⊥

-- where the copy is released, its cut is what the near one's was at the hold, and that one is gone
abbrev pub MovedIsSame : Type 0 → Type 0
MovedIsSame P = (codec : Codec Image P) (slot : ℕ) (w v : World) (es : List (Step codec slot)) (h : World) (image : Image) → Happens codec slot w v es h →
    (pair_after codec slot w v es).far ≡ far.Releases image →
    IsReadyIn codec slot (pair_after codec slot w v es) handover.FarOwn →
    (cut (next (kernels codec slot) (pair_after codec slot w v es) handover.FarOwn).far_world top slot ≡ cut h top slot) ×
    ((number : ℕ) → birth_at h (slot ∷ top) ≡ Some number → HasNone (pair_after codec slot w v es).near_world number)

-- where the near one is released after it was cancelled, its cut is what it was at the hold
abbrev pub KeptIsSame : Type 0 → Type 0
KeptIsSame P = (codec : Codec Image P) (slot : ℕ) (w v : World) (es : List (Step codec slot)) (h : World) (image : Image)
    (why : Why) → Happens codec slot w v es h →
    (pair_after codec slot w v es).near ≡ near.Cancels image why →
    IsReadyIn codec slot (pair_after codec slot w v es) handover.NearOwn →
    cut (next (kernels codec slot) (pair_after codec slot w v es) handover.NearOwn).near_world top slot ≡ cut h top slot

-- where the subtree isn't closed the near one is as it was too, and the reason is the first place that says so, as at the hold
abbrev pub ForeignIsSame : Type 0 → Type 0
ForeignIsSame P = (codec : Codec Image P) (slot : ℕ) (w v : World) (es : List (Step codec slot)) (h : World) (place : Place) → Happens codec slot w v es h →
    (pair_after codec slot w v es).near ≡ near.Saves (Releases (OpenAt place)) →
    IsReadyIn codec slot (pair_after codec slot w v es) handover.NearOwn →
    (cut (next (kernels codec slot) (pair_after codec slot w v es) handover.NearOwn).near_world top slot ≡ cut h top slot) ×
    (open_place h top slot ≡ Some place)

abbrev pub SaysWhy : World → ℕ → Why → Type 0
SaysWhy h slot Dead = IsSpaceAt h (slot ∷ top) → ⊥
SaysWhy h slot (Foreign place) = IsSpaceAt h (slot ∷ top) × (open_place h top slot ≡ Some place)
SaysWhy h slot other = ⊥

-- a checkpoint that has failed says why, as it was at the hold
abbrev pub FailedSaysWhy : Type 0 → Type 0
FailedSaysWhy P = (codec : Codec Image P) (slot : ℕ) (w v : World) (es : List (Step codec slot)) (h : World) (why : Why) → Happens codec slot w v es h →
    (pair_after codec slot w v es).near ≡ near.Failed why → SaysWhy h slot why

-- where the far restore has ended without a copy the slot was taken at the make; or it was led to a slot in which no port stood, and had not been
-- led there before, and that slot is the lowest of the image for which this is so
abbrev pub RefusesSo : World → ℕ → Image → Why → Type 0
RefusesSo m slot image Occupied = IsSome (m.body (slot ∷ top))
RefusesSo m slot image (NoPort port) =
    (m.body (slot ∷ top) ≡ None) × IsLowest (bound_by []) (rooms_of image) port ×
    ((u : World) × (work : AtWork (restore_of slot image []) top m restores.Makes u (restores.Over (restores.NoPort port)))
    × MissesFirst slot (bound_by []) (rooms_of image) port work.run)
RefusesSo m slot image other = ⊥

-- a far restore that has ended without a copy says why: its slot was taken, or there was no port in a slot to which the image leads out
abbrev pub RefusedSaysWhy : Type 0 → Type 0
RefusedSaysWhy P = (codec : Codec Image P) (slot : ℕ) (w v : World) (es : List (Step codec slot)) (h m : World) (image : Image) (why : Why) →
    Happens codec slot w v es h → make_from codec slot None (first (kernels codec slot) w v) es ≡ Some m →
    (pair_after codec slot w v es).far ≡ far.Refuses image why → RefusesSo m slot image why

-- ---- kept

-- once the near one is kept no copy is ever free, whatever comes after it
abbrev pub KeptIsAlone : Type 0 → Type 0
KeptIsAlone P = (codec : Codec Image P) (slot : ℕ) (w v : World) (es more : List (Step codec slot)) (h m : World) (copy : ℕ) →
    Happens codec slot w v (es ++ more) h → is_kept (pair_after codec slot w v es).near ≡ true →
    make_from codec slot None (first (kernels codec slot) w v) (es ++ more) ≡ Some m → MakesCopy slot m copy →
    IsFree (pair_after codec slot w v (es ++ more)).far_world copy → ⊥

-- one that was cancelled was given up, or the far restore has ended without a copy, for the reason that it says
abbrev pub CancelledSaysWhy : Type 0 → Type 0
CancelledSaysWhy P = (codec : Codec Image P) (slot : ℕ) (w v : World) (es : List (Step codec slot)) (h : World) (why : Why) → Happens codec slot w v es h →
    why_cancelled (pair_after codec slot w v es).near ≡ Some why →
    ((why ≡ GaveUp) × IsIn handover.GiveUp es) ⊎
    ((m : World) × (image : Image) × (make_from codec slot None (first (kernels codec slot) w v) es ≡ Some m) × RefusesSo m slot image why)
