-- What a migration promises of a pair, in the words of its two kernels. `s` is the pair, and `t` the one behind one event more.
use Rattle.std.specs.Prelude.{◌≡◌, ℕ, ◌+◌, ◌*◌, ◌≤◌, true, false, ◌⊎◌, ◌∷◌, ◌++◌, List, Some, None}
use Rattle.fk_model.specs.Closed.{Place, open_place}
use Rattle.fk_model.specs.Cut.{cut}
use Rattle.fk_model.specs.Valid.{birth_at}
use Rattle.fk_model.specs.World.{World}
use Rattle.fk_image.specs.declared.image.image.Image.{Image}
use Rattle.fk_sides.specs.Fars.{IsFar}
use Rattle.fk_sides.specs.Sides.{both}
use Rattle.laws_handover.specs.NearSide as near
use Rattle.laws_handover.specs.FarSide as far
use Rattle.laws_handover.specs.Handover as handover
use Rattle.laws_handover.specs.Handover.{first, next}
use Rattle.laws_handover.specs.Laws.{is_kept, is_over, IsIn, why_cancelled}
use Rattle.laws_jobs.specs.Machines.{LiesWithin}
use Rattle.laws_checkpoint.specs.Checkpoint.State.{Releases}
use Rattle.laws_checkpoint.specs.Checkpoint.End.{Foreign as OpenAt}
use Rattle.laws_checkpoint.specs.Bounded.{count_of}
use Rattle.laws_migrate.specs.Births.{HasNone}
use Rattle.laws_migrate.specs.Images.{image_codec}
use Rattle.laws_migrate.specs.Laws.{SaysWhy, RefusesSo, pair_after}
use Rattle.laws_migrate.specs.Migration.{Why, top, hold_from, make_from, MakesCopy, IsFree, IsReadyIn, is_near_own, is_far_own, counted_from}
use Rattle.laws_migrate.specs.Migration.Why.{Foreign, GaveUp}
use Rattle.laws_migrate.specs.Porters.{HasPorter, IsCalmNow}
use Rattle.fk_migrate.specs.Runs.{Step}
use Rattle.fk_migrate.specs.Pairs.{Shown, Start, IsRunOf}

-- the near world at the hold
abbrev pub IsHold : (s : Shown) (from : Start) → IsRunOf s from → World → Type 0
IsHold s from its h = hold_from image_codec from.slot None (first (both from.slot) from.near from.far) its.steps ≡ Some h

-- the far world at the make
abbrev pub IsMake : (s : Shown) (from : Start) → IsRunOf s from → World → Type 0
IsMake s from its m = make_from image_codec from.slot None (first (both from.slot) from.near from.far) its.steps ≡ Some m

-- the space that stood in the slot at the hold, and the one that was made for the copy, never live both where neither is held by its porter
abbrev pub NeverTwo : Shown → Type 0
NeverTwo s = (from : Start) (its : IsRunOf s from) (h m : World) (number copy : ℕ) → IsHold s from its h → birth_at h (from.slot ∷ top) ≡ Some number →
    IsMake s from its m → MakesCopy from.slot m copy → IsFree s.near.world number → IsFree s.far.world copy → ⊥

-- nor did they at any moment before, after whichever of its steps
abbrev pub NeverTwoEver : Shown → Type 0
NeverTwoEver s = (from : Start) (its : IsRunOf s from) (es more : List Step) (h m : World) (number copy : ℕ) → its.steps ≡ es ++ more →
    hold_from image_codec from.slot None (first (both from.slot) from.near from.far) es ≡ Some h → birth_at h (from.slot ∷ top) ≡ Some number →
    make_from image_codec from.slot None (first (both from.slot) from.near from.far) es ≡ Some m → MakesCopy from.slot m copy →
    IsFree (pair_after image_codec from.slot from.near from.far es).near_world number →
    IsFree (pair_after image_codec from.slot from.near from.far es).far_world copy → ⊥

-- where the copy is being released and then is, its cut is what the near one's was at the hold, and that one is gone
abbrev pub MovesWhole : Shown → Shown → Type 0
MovesWhole s t = (from : Start) (its : IsRunOf s from) (h : World) (image : Image) → IsHold s from its h → IsFar s.makes (far.Releases image) →
    IsFar t.makes (far.Moved image) →
    (cut t.far.world top from.slot ≡ cut h top from.slot) × ((number : ℕ) → birth_at h (from.slot ∷ top) ≡ Some number → HasNone s.near.world number)

-- where the near one is kept and then released, its cut is what it was at the hold
abbrev pub KeepsWhole : Shown → Shown → Type 0
KeepsWhole s t = (from : Start) (its : IsRunOf s from) (h : World) (image : Image) (why : Why) → IsHold s from its h →
    s.near.side ≡ near.Cancels image why → t.near.side ≡ near.Cancelled image why → cut t.near.world top from.slot ≡ cut h top from.slot

-- where the subtree isn't closed the near one is kept and released too, and its cut is what it was at the hold; the place says so as at the hold
abbrev pub ForeignWhole : Shown → Shown → Type 0
ForeignWhole s t = (from : Start) (its : IsRunOf s from) (h : World) (place : Place) → IsHold s from its h →
    s.near.side ≡ near.Saves (Releases (OpenAt place)) → t.near.side ≡ near.Failed (Foreign place) →
    (cut t.near.world top from.slot ≡ cut h top from.slot) × (open_place h top from.slot ≡ Some place)

-- so it was at whichever of its steps the copy, or the near one, was released

abbrev pub MovedWhole : Shown → Type 0
MovedWhole s = (from : Start) (its : IsRunOf s from) (es more : List Step) (h : World) (image : Image) → its.steps ≡ es ++ handover.FarOwn ∷ more →
    hold_from image_codec from.slot None (first (both from.slot) from.near from.far) es ≡ Some h →
    (pair_after image_codec from.slot from.near from.far es).far ≡ far.Releases image →
    (cut (next (both from.slot) (pair_after image_codec from.slot from.near from.far es) handover.FarOwn).far_world top from.slot ≡ cut h top from.slot) ×
    ((number : ℕ) → birth_at h (from.slot ∷ top) ≡ Some number → HasNone (pair_after image_codec from.slot from.near from.far es).near_world number)

abbrev pub KeptWhole : Shown → Type 0
KeptWhole s = (from : Start) (its : IsRunOf s from) (es more : List Step) (h : World) (image : Image) (why : Why) → its.steps ≡ es ++ handover.NearOwn ∷ more →
    hold_from image_codec from.slot None (first (both from.slot) from.near from.far) es ≡ Some h →
    (pair_after image_codec from.slot from.near from.far es).near ≡ near.Cancels image why →
    cut (next (both from.slot) (pair_after image_codec from.slot from.near from.far es) handover.NearOwn).near_world top from.slot ≡ cut h top from.slot

abbrev pub KeptForeign : Shown → Type 0
KeptForeign s = (from : Start) (its : IsRunOf s from) (es more : List Step) (h : World) (place : Place) → its.steps ≡ es ++ handover.NearOwn ∷ more →
    hold_from image_codec from.slot None (first (both from.slot) from.near from.far) es ≡ Some h →
    (pair_after image_codec from.slot from.near from.far es).near ≡ near.Saves (Releases (OpenAt place)) →
    (cut (next (both from.slot) (pair_after image_codec from.slot from.near from.far es) handover.NearOwn).near_world top from.slot ≡ cut h top from.slot) ×
    (open_place h top from.slot ≡ Some place)

-- where its checkpoint has ended without an image it says why
abbrev pub FailsSo : Shown → Type 0
FailsSo s = (from : Start) (its : IsRunOf s from) (h : World) (why : Why) → IsHold s from its h → s.near.side ≡ near.Failed why → SaysWhy h from.slot why

-- where it was cancelled it was given up, or the far restore has ended without a copy, for the reason that it says
abbrev pub CancelsSo : Shown → Type 0
CancelsSo s = (from : Start) (its : IsRunOf s from) (h : World) (why : Why) → IsHold s from its h → why_cancelled s.near.side ≡ Some why →
    ((why ≡ GaveUp) × IsIn handover.GiveUp its.steps) ⊎ ((m : World) × (image : Image) × IsMake s from its m × RefusesSo m from.slot image why)

-- once the near one is kept no copy is ever free, whatever comes after it
abbrev pub KeepsAlone : Shown → Type 0
KeepsAlone s = (from : Start) (its : IsRunOf s from) (h m : World) (copy : ℕ) (es more : List Step) → IsHold s from its h → its.steps ≡ es ++ more →
    is_kept (pair_after image_codec from.slot from.near from.far es).near ≡ true → IsMake s from its m → MakesCopy from.slot m copy →
    IsFree s.far.world copy → ⊥

-- from the hold on, until it is over, a porter's call is ready where all that was sent has come and nothing outside both subtrees is held
abbrev pub KeepsGoing : Shown → Type 0
KeepsGoing s = (from : Start) (its : IsRunOf s from) (h : World) → IsHold s from its h → HasPorter from.far → IsCalmNow image_codec from.slot its.run.pair →
    is_over its.run.pair.near its.run.pair.far ≡ false →
    IsReadyIn image_codec from.slot its.run.pair handover.NearOwn ⊎ IsReadyIn image_codec from.slot its.run.pair handover.FarOwn

-- both porters make so many calls at most, where the subtree had so many bodies and pages at the hold, none deeper
abbrev pub IsBounded : Shown → Type 0
IsBounded s = (from : Start) (its : IsRunOf s from) (h : World) (d : ℕ) → IsHold s from its h → LiesWithin (cut h top from.slot) d →
    counted_from is_near_own 0 its.steps + counted_from is_far_own 0 its.steps ≤ 142 * ((count_of (cut h top from.slot) + 1) * (d + 1))

-- all that holds of a pair, whatever has come before
pub record IsPromised (s : Shown) : Type 0 where
  pub never_two : NeverTwo s
  pub ever : NeverTwoEver s
  pub moved : MovedWhole s
  pub kept : KeptWhole s
  pub foreign : KeptForeign s
  pub fails : FailsSo s
  pub cancels : CancelsSo s
  pub alone : KeepsAlone s
  pub going : KeepsGoing s
  pub bounded : IsBounded s
