-- What a migration promises of a pair: the laws of migration, over the run of its events.
use Rattle.std.proofs.Common.{◌≡◌, ◌⊎◌, ℕ, false, List, ◌∷◌, ◌++◌, Option, Some, None, refl, sym, ap, subst, ◌∙◌}
use Rattle.fk_model.specs.Cut.{cut}
use Rattle.fk_model.specs.World.{World}
use Rattle.fk_image.specs.declared.image.image.Image.{Image}
use Rattle.laws_handover.specs.NearSide as near
use Rattle.laws_handover.specs.FarSide as far
use Rattle.laws_handover.specs.Handover as handover
use Rattle.laws_handover.specs.Handover.{first}
use Rattle.laws_handover.specs.Pieces.{Piece}
use Rattle.laws_handover.specs.Packets.{Packet as Sent}
use Rattle.laws_handover.specs.Laws.{is_over, why_cancelled}
use Rattle.laws_handover.specs.Sent.{sent_near, sent_far}
use Rattle.std.specs.List.{slice_get}
use Rattle.std.specs.Prelude.{Result, Ok, Err, OnOk}
use Rattle.laws_migrate.specs.Births.{HasNone}
use Rattle.laws_migrate.specs.Images.{image_codec}
use Rattle.laws_migrate.specs.Laws.{Happens, pair_after}
use Rattle.fk_model.specs.Closed.{Place}
use Rattle.laws_checkpoint.specs.Checkpoint.State.{Releases}
use Rattle.laws_checkpoint.specs.Checkpoint.End.{Foreign as OpenAt}
use Rattle.laws_migrate.specs.Migration.Why.{Foreign}
use Rattle.laws_migrate.specs.Migration.{Why, AreReady, Both, IsReadyIn, top, IsFree, hold_from, make_from}
use Rattle.laws_migrate.specs.Porters.{IsCalmNow}
use Rattle.laws_migrate.proofs.Images.{images_are_read}
use Rattle.laws_migrate.proofs.Migrates.{never_both_free, moved_is_same, kept_is_same, foreign_is_same, failed_says_why, cancelled_says_why, kept_is_alone}
use Rattle.laws_migrate.proofs.Readies.{migration_goes_on}
use Rattle.laws_migrate.proofs.FarBounded.{both_are_bounded}
use Rattle.fk_sides.specs.declared.far.Makes.{Makes}
use Rattle.fk_sides.specs.declared.far.Makes.TheVariants as makes
use Rattle.fk_sides.specs.Fars.{IsFar}
use Rattle.fk_sides.specs.Sides.{NearSide, FarSide, both}
use Rattle.fk_migrate.specs.Turns.{NearPart, FarPart}
use Rattle.fk_migrate.specs.Runs.{Run, Step, next_run}
use Rattle.fk_migrate.specs.Pairs.{Shown, Start, IsRunOf, LeadsTo, GoesOn, begun}
use Rattle.fk_packets.specs.declared.events.Event.{Event as PairEvent}
use Rattle.fk_migrate.specs.Promises.{IsHold, NeverTwo, NeverTwoEver, MovesWhole, KeepsWhole, ForeignWhole, MovedWhole, KeptWhole, KeptForeign, FailsSo, CancelsSo, KeepsAlone, KeepsGoing, IsBounded, IsPromised}
use Rattle.fk_migrate.proofs.Running.{runs_so, are_ready, ready_front, ready_at}

abbrev Packets : Type 0
Packets = Sent Piece Why

module _ (s : Shown) (from : Start) (its : IsRunOf s from) where
  abbrev end : Both image_codec from.slot
  end = pair_after image_codec from.slot from.near from.far its.steps

  come : end ≡ its.run.pair
  come = runs_so from.slot (begun from) s.events its.steps its.run its.ran

  happens : (h : World) → IsHold s from its h → Happens image_codec from.slot from.near from.far its.steps h
  happens h held = record {
    good = images_are_read;
    may = from.may;
    ready = are_ready from.slot (begun from) s.events its.steps its.run its.ran;
    held = held;
  }

  near_world : s.near.world ≡ end.near_world
  near_world = ap (λ (p : NearPart). p.world) its.stands.near ∙ ap (λ (p : Both image_codec from.slot). p.near_world) (sym come)

  far_world : s.far.world ≡ end.far_world
  far_world = ap (λ (p : FarPart). p.world) its.stands.far ∙ ap (λ (p : Both image_codec from.slot). p.far_world) (sym come)

  near_side : s.near.side ≡ end.near
  near_side = ap (λ (p : NearPart). p.side) its.stands.near ∙ ap (λ (p : Both image_codec from.slot). p.near) (sym come)

pub never_two : (s : Shown) → NeverTwo s
never_two s from its h m number copy held named made copies near_free far_free =
    never_both_free image_codec from.slot from.may.low images_are_read from.near from.far its.steps h m number copy (happens s from its h held) named made copies
    (subst (λ (w : World). IsFree w number) (near_world s from its) near_free) (subst (λ (w : World). IsFree w copy) (far_world s from its) far_free)

pub never_two_ever : (s : Shown) → NeverTwoEver s
never_two_ever s from its es more h m number copy all held named made copies near_free far_free =
    let ready = are_ready from.slot (begun from) s.events its.steps its.run its.ran in
    let front = ready_front from.slot (first (both from.slot) from.near from.far) es more
    (subst (λ (ss : List Step). AreReady image_codec from.slot (first (both from.slot) from.near from.far) ss) all ready) in
    never_both_free image_codec from.slot from.may.low images_are_read from.near from.far es h m number copy
    (record { good = images_are_read; may = from.may; ready = front; held = held }) named made copies near_free far_free

-- at whichever of its steps
module _ (s : Shown) (from : Start) (its : IsRunOf s from) (es more : List Step) (step : Step) (all : its.steps ≡ es ++ step ∷ more) where
  ready_all : AreReady image_codec from.slot (first (both from.slot) from.near from.far) (es ++ step ∷ more)
  ready_all =
      subst (λ (ss : List Step). AreReady image_codec from.slot (first (both from.slot) from.near from.far) ss) all
      (are_ready from.slot (begun from) s.events its.steps its.run its.ran)

  happened : (h : World) → hold_from image_codec from.slot None (first (both from.slot) from.near from.far) es ≡ Some h
      → Happens image_codec from.slot from.near from.far es h
  happened h held = record {
    good = images_are_read;
    may = from.may;
    ready = ready_front from.slot (first (both from.slot) from.near from.far) es (step ∷ more) ready_all;
    held = held;
  }

  ready_there : IsReadyIn image_codec from.slot (pair_after image_codec from.slot from.near from.far es) step
  ready_there = ready_at from.slot (first (both from.slot) from.near from.far) es more step ready_all

abbrev own_far : Step
own_far = handover.FarOwn

abbrev own_near : Step
own_near = handover.NearOwn

pub moved_whole : (s : Shown) → MovedWhole s
moved_whole s from its es more h image all held releases =
    moved_is_same image_codec from.slot from.may.low images_are_read from.near from.far es h image (happened s from its es more own_far all h held) releases
    (ready_there s from its es more own_far all)

pub kept_whole : (s : Shown) → KeptWhole s
kept_whole s from its es more h image why all held kept =
    kept_is_same image_codec from.slot from.may.low images_are_read from.near from.far es h image why (happened s from its es more own_near all h held) kept
    (ready_there s from its es more own_near all)

pub kept_foreign : (s : Shown) → KeptForeign s
kept_foreign s from its es more h place all held kept =
    foreign_is_same image_codec from.slot from.may.low images_are_read from.near from.far es h place (happened s from its es more own_near all h held) kept
    (ready_there s from its es more own_near all)

pub fails_so : (s : Shown) → FailsSo s
fails_so s from its h why held failed =
    failed_says_why image_codec from.slot from.may.low images_are_read from.near from.far its.steps h why (happens s from its h held)
    (sym (near_side s from its) ∙ failed)

pub cancels_so : (s : Shown) → CancelsSo s
cancels_so s from its h why held is =
    cancelled_says_why image_codec from.slot from.may.low images_are_read from.near from.far its.steps h why (happens s from its h held)
    (ap (λ (n : NearSide). why_cancelled n) (sym (near_side s from its)) ∙ is)

pub keeps_alone : (s : Shown) → KeepsAlone s
keeps_alone s from its h m copy es more held all kept made copies free =
    let happened = subst (λ (ss : List Step). Happens image_codec from.slot from.near from.far ss h) all (happens s from its h held) in
    let made_there = subst (λ (ss : List Step). make_from image_codec from.slot None (first (both from.slot) from.near from.far) ss ≡ Some m) all made in
    kept_is_alone image_codec from.slot from.may.low images_are_read from.near from.far es more h m copy happened kept made_there copies
    (subst (λ (ss : List Step). IsFree (pair_after image_codec from.slot from.near from.far ss).far_world copy) all
    (subst (λ (w : World). IsFree w copy) (far_world s from its) free))

pub keeps_going : (s : Shown) → KeepsGoing s
keeps_going s from its h held native calm over =
    let back : its.run.pair ≡ end s from its = sym (come s from its) in
    let calm_there = subst (λ (p : Both image_codec from.slot). IsCalmNow image_codec from.slot p) back calm in
    let over_there = subst (λ (p : Both image_codec from.slot). is_over p.near p.far ≡ false) back over in
    subst (λ (p : Both image_codec from.slot). IsReadyIn image_codec from.slot p handover.NearOwn ⊎ IsReadyIn image_codec from.slot p handover.FarOwn)
    (come s from its)
    (migration_goes_on image_codec from.slot from.near from.far its.steps h (happens s from its h held) native calm_there over_there)

pub is_bounded : (s : Shown) → IsBounded s
is_bounded s from its h d held deep = both_are_bounded image_codec from.slot from.near from.far its.steps h d (happens s from its h held) deep

pub promised : (s : Shown) → IsPromised s
promised s = record {
  never_two = never_two s;
  ever = never_two_ever s;
  moved = moved_whole s;
  kept = kept_whole s;
  foreign = kept_foreign s;
  fails = fails_so s;
  cancels = cancels_so s;
  alone = keeps_alone s;
  going = keeps_going s;
  bounded = is_bounded s;
}

-- ---- by one event more

abbrev moving : Image → FarSide
moving i = far.Releases i

abbrev moved : Image → FarSide
moved i = far.Moved i

abbrev listening : List Piece → FarSide
listening got = far.Listens got

not_moving : (i : Image) (got : List Piece) → moving i ≡ listening got → ⊥
not_moving i got e = cc

not_moved : (i : Image) (got : List Piece) → moved i ≡ listening got → ⊥
not_moved i got e = cc

-- what a far side shows, it is, unless pieces come
releases_so : (m : Makes) (i : Image) (f : FarSide) → IsFar m (moving i) → IsFar m f → f ≡ moving i
releases_so (makes.Listens came) i f is other = absurd (not_moving i is.0 is.1)
releases_so makes.Never i f is other = cc
releases_so (makes.Restores r stand) i f is other = other ∙ sym is

moved_so : (m : Makes) (i : Image) (f : FarSide) → IsFar m (moved i) → IsFar m f → f ≡ moved i
moved_so (makes.Listens came) i f is other = absurd (not_moved i is.0 is.1)
moved_so makes.Never i f is other = cc
moved_so (makes.Restores r stand) i f is other = other ∙ sym is

not_yet : (i j : Image) → moving i ≡ moved j → ⊥
not_yet i j e = cc

-- no other step lets the copy go
module _ (slot : ℕ) (r : Run) (i j : Image) (is : r.pair.far ≡ moving i) where
  abbrev Lets : Step → Type 0
  Lets step = (next_run slot r step).pair.far ≡ moved j

  stays : (f : FarSide) → f ≡ r.pair.far → f ≡ moved j → ⊥
  stays f same lets = not_yet i j (sym is ∙ sym same ∙ lets)

  told : (o : Option (Sent Piece Why)) → (number : ℕ) → (handover.delivered_far (both slot) r.pair number o).far ≡ moved j → ⊥
  told None number lets = stays r.pair.far refl lets
  told (Some p) number lets = not_yet i j (sym (ap (λ (f : FarSide). handover.far_told (both slot) f p) is) ∙ lets)

  near_told : (o : Option (Sent Piece Why)) → (number : ℕ) → (handover.delivered_near (both slot) r.pair number o).far ≡ moved j → ⊥
  near_told None number lets = stays r.pair.far refl lets
  near_told (Some p) number lets = stays r.pair.far refl lets

  own_step : (step : Step) → Lets step → step ≡ handover.FarOwn
  own_step handover.FarOwn lets = refl
  own_step (handover.OfNear e) lets = absurd (stays r.pair.far refl lets)
  own_step (handover.OfFar e) lets = absurd (stays r.pair.far refl lets)
  own_step handover.NearOwn lets = absurd (stays r.pair.far refl lets)
  own_step (handover.ToFar number) lets = absurd (told (slice_get (sent_near image_codec r.pair.near) number) number lets)
  own_step (handover.ToNear number) lets = absurd (near_told (slice_get (sent_far r.pair.far) number) number lets)
  own_step handover.GiveUp lets = absurd (stays r.pair.far refl lets)

pub moves_whole : (s t : Shown) (e : PairEvent) → LeadsTo s e t → MovesWhole s t
moves_whole s t e leads_to from its h image held releases moves =
    let leads = leads_to from its in
    let is = releases_so s.makes image its.run.pair.far releases its.stands.far_side in
    let lets = moved_so t.makes image (next_run from.slot its.run leads.step).pair.far moves leads.stands.far_side in
    let own : leads.step ≡ handover.FarOwn = own_step from.slot its.run image image is leads.step lets in
    let ready : IsReadyIn image_codec from.slot its.run.pair handover.FarOwn = subst (IsReadyIn image_codec from.slot its.run.pair) own leads.ready in
    let back : its.run.pair ≡ end s from its = sym (come s from its) in
    let whole = moved_is_same image_codec from.slot from.may.low images_are_read from.near from.far its.steps h image (happens s from its h held)
    (ap (λ (p : Both image_codec from.slot). p.far) (come s from its) ∙ is)
    (subst (λ (p : Both image_codec from.slot). IsReadyIn image_codec from.slot p handover.FarOwn) back ready) in
    let there : t.far.world ≡ (handover.next (both from.slot) (end s from its) handover.FarOwn).far_world =
    ap (λ (p : FarPart). p.world) leads.stands.far ∙ ap (λ (step : Step). (next_run from.slot its.run step).pair.far_world) own
    ∙ ap (λ (p : Both image_codec from.slot). (handover.next (both from.slot) p handover.FarOwn).far_world) back in (
      ap (λ (w : World). cut w top from.slot) there ∙ whole.0,
      λ number named. subst (λ (w : World). HasNone w number) (sym (near_world s from its)) (whole.1 number named),
    )

-- ---- the near one

abbrev cancels : Image → Why → NearSide
cancels i why = near.Cancels i why

abbrev cancelled : Image → Why → NearSide
cancelled i why = near.Cancelled i why

not_released : (i j : Image) (x y : Why) → cancels i x ≡ cancelled j y → ⊥
not_released i j x y e = cc

-- only its own call takes a near side that hears nothing to another
module _ (slot : ℕ) (r : Run) (n m : NearSide) (differs : n ≡ m → ⊥) (deaf : (p : Packets) → handover.near_told (both slot) n p ≡ n)
    (still : handover.gives_up (both slot) n ≡ n) (is : r.pair.near ≡ n) where
  abbrev Frees : Step → Type 0
  Frees step = (next_run slot r step).pair.near ≡ m

  keeps : r.pair.near ≡ m → ⊥
  keeps frees = differs (sym is ∙ frees)

  hears : (o : Option Packets) → (number : ℕ) → (handover.delivered_near (both slot) r.pair number o).near ≡ m → ⊥
  hears None number frees = keeps frees
  hears (Some p) number frees = differs (sym (ap (λ (x : NearSide). handover.near_told (both slot) x p) is ∙ deaf p) ∙ frees)

  far_hears : (o : Option Packets) → (number : ℕ) → (handover.delivered_far (both slot) r.pair number o).near ≡ m → ⊥
  far_hears None number frees = keeps frees
  far_hears (Some p) number frees = keeps frees

  near_own_step : (step : Step) → Frees step → step ≡ handover.NearOwn
  near_own_step handover.NearOwn frees = refl
  near_own_step (handover.OfNear e) frees = absurd (keeps frees)
  near_own_step (handover.OfFar e) frees = absurd (keeps frees)
  near_own_step handover.FarOwn frees = absurd (keeps frees)
  near_own_step (handover.ToFar number) frees = absurd (far_hears (slice_get (sent_near image_codec r.pair.near) number) number frees)
  near_own_step (handover.ToNear number) frees = absurd (hears (slice_get (sent_far r.pair.far) number) number frees)
  near_own_step handover.GiveUp frees = absurd (differs (sym (ap (λ (x : NearSide). handover.gives_up (both slot) x) is ∙ still) ∙ frees))

-- the own call that takes it there, and the world behind it
record Freed (s t : Shown) (from : Start) (its : IsRunOf s from) (n : NearSide) : Type 0 where
  side : (end s from its).near ≡ n
  ready : IsReadyIn image_codec from.slot (end s from its) handover.NearOwn
  world : t.near.world ≡ (handover.next (both from.slot) (end s from its) handover.NearOwn).near_world

freed_so : (s t : Shown) (e : PairEvent) (from : Start) (its : IsRunOf s from) (n m : NearSide) → LeadsTo s e t → (n ≡ m → ⊥)
    → ((p : Packets) → handover.near_told (both from.slot) n p ≡ n) → handover.gives_up (both from.slot) n ≡ n → s.near.side ≡ n → t.near.side ≡ m
    → Freed s t from its n
freed_so s t e from its n m leads_to differs deaf still kept freed =
    let leads = leads_to from its in
    let is = ap (λ (p : NearPart). p.side) (sym its.stands.near) ∙ kept in
    let frees = ap (λ (p : NearPart). p.side) (sym leads.stands.near) ∙ freed in
    let own : leads.step ≡ handover.NearOwn = near_own_step from.slot its.run n m differs deaf still is leads.step frees in
    let ready : IsReadyIn image_codec from.slot its.run.pair handover.NearOwn = subst (IsReadyIn image_codec from.slot its.run.pair) own leads.ready in
    let back : its.run.pair ≡ end s from its = sym (come s from its) in
    record {
      side = ap (λ (p : Both image_codec from.slot). p.near) (come s from its) ∙ is;
      ready = subst (λ (p : Both image_codec from.slot). IsReadyIn image_codec from.slot p handover.NearOwn) back ready;
      world = ap (λ (p : NearPart). p.world) leads.stands.near ∙ ap (λ (step : Step). (next_run from.slot its.run step).pair.near_world) own
          ∙ ap (λ (p : Both image_codec from.slot). (handover.next (both from.slot) p handover.NearOwn).near_world) back;
    }

pub keeps_whole : (s t : Shown) (e : PairEvent) → LeadsTo s e t → KeepsWhole s t
keeps_whole s t e leads_to from its h image why held kept freed =
    let there = freed_so s t e from its (cancels image why) (cancelled image why) leads_to (not_released image image why why) (λ p. refl) refl kept freed in
    let whole = kept_is_same image_codec from.slot from.may.low images_are_read from.near from.far its.steps h image why (happens s from its h held)
    there.side there.ready in
    ap (λ (w : World). cut w top from.slot) there.world ∙ whole

-- ---- the near one that isn't closed

abbrev opens : Place → NearSide
opens place = near.Saves (Releases (OpenAt place))

abbrev opened : Place → NearSide
opened place = near.Failed (Foreign place)

not_opened : (x y : Place) → opens x ≡ opened y → ⊥
not_opened x y e = cc

pub foreign_whole : (s t : Shown) (e : PairEvent) → LeadsTo s e t → ForeignWhole s t
foreign_whole s t e leads_to from its h place held kept freed =
    let there = freed_so s t e from its (opens place) (opened place) leads_to (not_opened place place) (λ p. refl) refl kept freed in
    let whole = foreign_is_same image_codec from.slot from.may.low images_are_read from.near from.far its.steps h place (happens s from its h held)
    there.side there.ready in
    (ap (λ (w : World). cut w top from.slot) there.world ∙ whole.0, whole.1)

pub moves_on : {E : Type 0} (r : Result (Unit {0}) E) (s t : Shown) (e : PairEvent) → OnOk r (GoesOn s e t) → OnOk r (MovesWhole s t)
moves_on (Ok x) s t e goes = moves_whole s t e goes.leads
moves_on (Err x) s t e goes = tt

pub keeps_on : {E : Type 0} (r : Result (Unit {0}) E) (s t : Shown) (e : PairEvent) → OnOk r (GoesOn s e t) → OnOk r (KeepsWhole s t)
keeps_on (Ok x) s t e goes = keeps_whole s t e goes.leads
keeps_on (Err x) s t e goes = tt

pub foreign_on : {E : Type 0} (r : Result (Unit {0}) E) (s t : Shown) (e : PairEvent) → OnOk r (GoesOn s e t) → OnOk r (ForeignWhole s t)
foreign_on (Ok x) s t e goes = foreign_whole s t e goes.leads
foreign_on (Err x) s t e goes = tt
