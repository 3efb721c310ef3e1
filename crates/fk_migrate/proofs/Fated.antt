-- What a run has come to, and at which moves its porters have made their calls.
use Rattle.std.proofs.Common.{◌≡◌, ℕ, suc, ◌+◌, ◌<◌, Bool, true, false, List, [], ◌∷◌, ◌++◌, length, Option, Some, None, option_map, refl, sym, ap, subst, ◌∙◌, arith}
use Rattle.std.specs.List.{slice_get}
use Rattle.fk_packets.specs.declared.events.Event.{Event as PairEvent}
use Rattle.fk_image.specs.declared.image.image.Image.{Image}
use Rattle.laws_checkpoint.specs.Checkpoint.State.{Holds}
use Rattle.laws_handover.specs.NearSide as near
use Rattle.laws_handover.specs.FarSide as far
use Rattle.laws_handover.specs.Handover as handover
use Rattle.laws_handover.specs.Handover.{far_told, listened}
use Rattle.laws_handover.specs.Packets.{Packet as Sent}
use Rattle.laws_handover.specs.Packets as packets
use Rattle.laws_handover.specs.Pieces.{Piece}
use Rattle.laws_handover.specs.Sent.{sent_near, sent_far}
use Rattle.laws_migrate.specs.Images.{image_codec}
use Rattle.laws_migrate.specs.Migration.{Why, IsReadyIn, is_near_own, is_far_own, may_give_up, IsFarReady}
use Rattle.laws_migrate.specs.Places.{place_of, is_near, is_far}
use Rattle.fk_sides.specs.declared.kept.Reason.{Reason}
use Rattle.fk_sides.specs.Fars.{IsFar}
use Rattle.fk_sides.specs.Kept.{reason_of, why_kept, is_moved}
use Rattle.fk_sides.specs.Sides.{NearSide, FarSide, both}
use Rattle.fk_migrate.specs.declared.fates.Fate.TheVariants as fates
use Rattle.fk_migrate.specs.declared.places.Calls.{Calls}
use Rattle.fk_migrate.specs.declared.places.Places.{Places}
use Rattle.fk_migrate.specs.Fates.{three, calls_of, IsFate}
use Rattle.fk_migrate.specs.Pairs.{Shown, Start, IsRunOf, begun}
use Rattle.fk_migrate.specs.Places.{first_at, counted, counted_from, near_counted, far_counted, no_places, places_of}
use Rattle.fk_migrate.specs.Runs.{Run, Step, IsRun, next_run}
use Rattle.fk_migrate.specs.Turns.{NearPart}
use Rattle.fk_migrate.proofs.Counting.{counted_more}

-- ---- places by the laws' words

some_stays : (o : Option ℕ) (n : ℕ) (own : Bool) (at : ℕ) → o ≡ Some n → first_at o own at ≡ Some n
some_stays o n own at is = ap (λ (x : Option ℕ). first_at x own at) is

none_first : (o : Option ℕ) (own : Bool) (at : ℕ) → o ≡ None → first_at o own at ≡ first_at None own at
none_first o own at is = ap (λ (x : Option ℕ). first_at x own at) is

abbrev some_place : ℕ → Option ℕ
some_place n = Some n

one_on : (n : ℕ) (o : Option ℕ) → option_map (λ (k : ℕ). n + 1 + k) o ≡ option_map (λ (k : ℕ). n + k) (option_map suc o)
one_on n None = refl
one_on n (Some k) = ap some_place (let same : n + 1 + k ≡ n + suc k = omega arith in same)

from_zero : (o : Option ℕ) → option_map (λ (k : ℕ). 0 + k) o ≡ o
from_zero None = refl
from_zero (Some k) = ap some_place (let same : 0 + k ≡ k = omega arith in same)

some_zero : (n : ℕ) → Some n ≡ option_map (λ (k : ℕ). n + k) (Some 0)
some_zero n = ap some_place (let same : n ≡ n + 0 = omega arith in same)

hold_stays : (p : Places) (ss : List Step) (n : ℕ) → p.hold ≡ Some n → (counted_from p ss).hold ≡ Some n
hold_stays p [] n is = is
hold_stays p (handover.OfNear e ∷ ss) n is = hold_stays (near_counted p false) ss n (some_stays p.hold n false p.near is)
hold_stays p (handover.NearOwn ∷ ss) n is = hold_stays (near_counted p true) ss n (some_stays p.hold n true p.near is)
hold_stays p (handover.OfFar e ∷ ss) n is = hold_stays (far_counted p false) ss n is
hold_stays p (handover.FarOwn ∷ ss) n is = hold_stays (far_counted p true) ss n is
hold_stays p (handover.ToFar number ∷ ss) n is = hold_stays p ss n is
hold_stays p (handover.ToNear number ∷ ss) n is = hold_stays p ss n is
hold_stays p (handover.GiveUp ∷ ss) n is = hold_stays p ss n is

hold_from : (p : Places) (ss : List Step) → p.hold ≡ None
    → (counted_from p ss).hold ≡ option_map (λ (k : ℕ). p.near + k) (place_of is_near_own is_near ss)
hold_from p [] none = none
hold_from p (handover.OfNear e ∷ ss) none =
    hold_from (near_counted p false) ss (none_first p.hold false p.near none) ∙ one_on p.near (place_of is_near_own is_near ss)
hold_from p (handover.NearOwn ∷ ss) none =
    hold_stays (near_counted p true) ss p.near (none_first p.hold true p.near none) ∙ some_zero p.near
hold_from p (handover.OfFar e ∷ ss) none = hold_from (far_counted p false) ss none
hold_from p (handover.FarOwn ∷ ss) none = hold_from (far_counted p true) ss none
hold_from p (handover.ToFar number ∷ ss) none = hold_from p ss none
hold_from p (handover.ToNear number ∷ ss) none = hold_from p ss none
hold_from p (handover.GiveUp ∷ ss) none = hold_from p ss none

hold_is : (ss : List Step) → (places_of ss).hold ≡ place_of is_near_own is_near ss
hold_is ss = hold_from no_places ss refl ∙ from_zero (place_of is_near_own is_near ss)

make_stays : (p : Places) (ss : List Step) (n : ℕ) → p.make ≡ Some n → (counted_from p ss).make ≡ Some n
make_stays p [] n is = is
make_stays p (handover.OfFar e ∷ ss) n is = make_stays (far_counted p false) ss n (some_stays p.make n false p.far is)
make_stays p (handover.FarOwn ∷ ss) n is = make_stays (far_counted p true) ss n (some_stays p.make n true p.far is)
make_stays p (handover.OfNear e ∷ ss) n is = make_stays (near_counted p false) ss n is
make_stays p (handover.NearOwn ∷ ss) n is = make_stays (near_counted p true) ss n is
make_stays p (handover.ToFar number ∷ ss) n is = make_stays p ss n is
make_stays p (handover.ToNear number ∷ ss) n is = make_stays p ss n is
make_stays p (handover.GiveUp ∷ ss) n is = make_stays p ss n is

make_from : (p : Places) (ss : List Step) → p.make ≡ None
    → (counted_from p ss).make ≡ option_map (λ (k : ℕ). p.far + k) (place_of is_far_own is_far ss)
make_from p [] none = none
make_from p (handover.OfFar e ∷ ss) none =
    make_from (far_counted p false) ss (none_first p.make false p.far none) ∙ one_on p.far (place_of is_far_own is_far ss)
make_from p (handover.FarOwn ∷ ss) none =
    make_stays (far_counted p true) ss p.far (none_first p.make true p.far none) ∙ some_zero p.far
make_from p (handover.OfNear e ∷ ss) none = make_from (near_counted p false) ss none
make_from p (handover.NearOwn ∷ ss) none = make_from (near_counted p true) ss none
make_from p (handover.ToFar number ∷ ss) none = make_from p ss none
make_from p (handover.ToNear number ∷ ss) none = make_from p ss none
make_from p (handover.GiveUp ∷ ss) none = make_from p ss none

make_is : (ss : List Step) → (places_of ss).make ≡ place_of is_far_own is_far ss
make_is ss = make_from no_places ss refl ∙ from_zero (place_of is_far_own is_far ss)

-- ---- a copy that is let go was made, and its original was held

first_none : (o : Option ℕ) (own : Bool) (at : ℕ) → first_at o own at ≡ None → (o ≡ None) × (own ≡ false)
first_none None false at is = (refl, refl)
first_none None true at is = cc
first_none (Some n) own at is = cc

abbrev saving : NearSide
saving = near.Saves Holds

abbrev listening : FarSide
listening = far.Listens []

-- before the first call of the near porter nothing has come to the far side
abbrev IsUnheld : Run → Type 0
IsUnheld r = (r.pair.near ≡ saving) × (r.pair.far ≡ listening)

module _ (slot : ℕ) (r : Run) where
  unheld_sends : (number : ℕ) → IsUnheld r → number < length (sent_near image_codec r.pair.near) → ⊥
  unheld_sends number un lt =
      let few : number < 0 = subst (λ (n : NearSide). number < length (sent_near image_codec n)) un.0 lt in
      omega (arith, few)

  unheld_hears : (number : ℕ) → IsUnheld r → number < length (sent_far r.pair.far) → ⊥
  unheld_hears number un lt =
      let few : number < 0 = subst (λ (f : FarSide). number < length (sent_far f)) un.1 lt in
      omega (arith, few)

  unheld_on : (p : Places) (s : Step) → (p.hold ≡ None → IsUnheld r) → IsReadyIn image_codec slot r.pair s → (counted p s).hold ≡ None
      → IsUnheld (next_run slot r s)
  unheld_on p (handover.OfNear e) so ready none = so (first_none p.hold false p.near none).0
  unheld_on p handover.NearOwn so ready none = let its = (first_none p.hold true p.near none).1 in cc
  unheld_on p (handover.OfFar e) so ready none = so none
  unheld_on p handover.FarOwn so ready none = absurd (subst (λ (f : FarSide). IsFarReady slot r.pair.far_world f) (so none).1 ready.0)
  unheld_on p (handover.ToFar number) so ready none = absurd (unheld_sends number (so none) ready)
  unheld_on p (handover.ToNear number) so ready none = absurd (unheld_hears number (so none) ready)
  unheld_on p handover.GiveUp so ready none = absurd (subst (λ (n : NearSide). may_give_up n) (so none).0 ready)

-- before the first call of the far porter no copy is built
abbrev is_early : FarSide → Bool
is_early (far.Listens got) = true
is_early (far.Makes i t) = true
is_early (far.Undoes i t) = true
is_early (far.Ended image ready) = true
is_early (far.Built i) = false
is_early (far.Releases i) = false
is_early (far.Moved i) = false
is_early (far.Refuses i why) = false
is_early (far.Clears i more ready) = false

early_unmoved : (f : FarSide) → is_early f ≡ true → is_moved f ≡ true → ⊥
early_unmoved (far.Listens got) early moved = cc
early_unmoved (far.Makes i t) early moved = cc
early_unmoved (far.Undoes i t) early moved = cc
early_unmoved (far.Ended image ready) early moved = cc
early_unmoved (far.Built i) early moved = cc
early_unmoved (far.Releases i) early moved = cc
early_unmoved (far.Moved i) early moved = cc
early_unmoved (far.Refuses i why) early moved = cc
early_unmoved (far.Clears i more ready) early moved = cc

abbrev Packets : Type 0
Packets = Sent Piece Why

module _ (slot : ℕ) where
  early_listened : (got : List Piece) (o : Option Image) → is_early (listened (both slot) got o) ≡ true
  early_listened got None = refl
  early_listened got (Some i) = refl

  early_told : (f : FarSide) (p : Packets) → is_early f ≡ true → is_early (far_told (both slot) f p) ≡ true
  early_told (far.Listens got) (packets.Piece q) early = early_listened (got ++ q ∷ []) (image_codec.reads (got ++ q ∷ []))
  early_told (far.Listens got) packets.Ready early = refl
  early_told (far.Listens got) (packets.Refused why) early = refl
  early_told (far.Listens got) packets.Gone early = refl
  early_told (far.Listens got) packets.Cancel early = refl
  early_told (far.Makes i t) (packets.Piece q) early = refl
  early_told (far.Makes i t) packets.Ready early = refl
  early_told (far.Makes i t) (packets.Refused why) early = refl
  early_told (far.Makes i t) packets.Gone early = refl
  early_told (far.Makes i t) packets.Cancel early = refl
  early_told (far.Undoes i t) p early = refl
  early_told (far.Ended image ready) p early = refl
  early_told (far.Built i) p early = cc
  early_told (far.Releases i) p early = cc
  early_told (far.Moved i) p early = cc
  early_told (far.Refuses i why) p early = cc
  early_told (far.Clears i more ready) p early = cc

module _ (slot : ℕ) (r : Run) where
  early_far : (number : ℕ) (o : Option Packets) → is_early r.pair.far ≡ true → is_early (handover.delivered_far (both slot) r.pair number o).far ≡ true
  early_far number None early = early
  early_far number (Some p) early = early_told slot r.pair.far p early

  early_near : (number : ℕ) (o : Option Packets) → is_early r.pair.far ≡ true → is_early (handover.delivered_near (both slot) r.pair number o).far ≡ true
  early_near number None early = early
  early_near number (Some p) early = early

  early_on : (p : Places) (s : Step) → (p.make ≡ None → is_early r.pair.far ≡ true) → (counted p s).make ≡ None
      → is_early (next_run slot r s).pair.far ≡ true
  early_on p (handover.OfNear e) so none = so none
  early_on p handover.NearOwn so none = so none
  early_on p (handover.OfFar e) so none = so (first_none p.make false p.far none).0
  early_on p handover.FarOwn so none = let its = (first_none p.make true p.far none).1 in cc
  early_on p (handover.ToFar number) so none = early_far number (slice_get (sent_near image_codec r.pair.near) number) (so none)
  early_on p (handover.ToNear number) so none = early_near number (slice_get (sent_far r.pair.far) number) (so none)
  early_on p handover.GiveUp so none = so none

-- a last call where there is a first one
released_on : (p : Places) (s : Step) → (p.release ≡ None → p.make ≡ None) → (counted p s).release ≡ None → (counted p s).make ≡ None
released_on p (handover.OfNear e) so none = so none
released_on p handover.NearOwn so none = so none
released_on p (handover.OfFar e) so none = none_first p.make false p.far (so none)
released_on p handover.FarOwn so none = cc
released_on p (handover.ToFar number) so none = so none
released_on p (handover.ToNear number) so none = so none
released_on p handover.GiveUp so none = so none

-- all three over a run
record Come (p : Places) (r : Run) : Type 0 where
  held : p.hold ≡ None → IsUnheld r
  made : p.make ≡ None → is_early r.pair.far ≡ true
  released : p.release ≡ None → p.make ≡ None

come_on : (slot : ℕ) (p : Places) (r : Run) (s : Step) → Come p r → IsReadyIn image_codec slot r.pair s → Come (counted p s) (next_run slot r s)
come_on slot p r s come ready = record {
  held = unheld_on slot r p s come.held ready;
  made = early_on slot r p s come.made;
  released = released_on p s come.released;
}

come : (from : Start) (es : List PairEvent) (ss : List Step) (r : Run) → IsRun from.slot (begun from) es ss r → Come (places_of ss) r
come from _ _ _ IsRun.Before = record { held = λ none. (refl, refl); made = λ none. refl; released = λ none. refl }
come from _ _ _ (IsRun.After es ss r e s before is ready) =
    subst (λ (p : Places). Come p (next_run from.slot r s)) (sym (counted_more no_places ss s))
    (come_on from.slot (places_of ss) r s (come from es ss r before) ready)

-- ---- what the code answers

same_calls : (one other : Calls) → Some one ≡ Some other → one ≡ other
same_calls one other e = cc

abbrev these : (h m r : ℕ) → Calls
these h m r = record { hold = h; make = m; release = r }

abbrev AreCalls : (h m r : Option ℕ) → Calls → Type 0
AreCalls h m r calls = (h ≡ Some calls.hold) × (m ≡ Some calls.make) × (r ≡ Some calls.release)

three_so : (h m r : Option ℕ) (calls : Calls) → three h m r ≡ Some calls → AreCalls h m r calls
three_so None m r calls is = cc
three_so (Some h) None r calls is = cc
three_so (Some h) (Some m) None calls is = cc
three_so (Some h) (Some m) (Some r) calls is = subst (AreCalls (Some h) (Some m) (Some r)) (same_calls (these h m r) calls is) (refl, refl, refl)

three_none : (h m r : Option ℕ) → three h m r ≡ None → (h ≡ None → ⊥) → (m ≡ None → ⊥) → (r ≡ None → ⊥) → ⊥
three_none None m r is hold make release = hold refl
three_none (Some h) None r is hold make release = make refl
three_none (Some h) (Some m) None is hold make release = release refl
three_none (Some h) (Some m) (Some r) is hold make release = cc

abbrev some_why : Why → Option Why
some_why why = Some why

pub not_kept : (s : Shown) (o : Option Reason) → o ≡ None → option_map reason_of o ≡ why_kept s.near.side → why_kept s.near.side ≡ None
not_kept s o is kept = sym kept ∙ ap (option_map reason_of) is

module _ (s : Shown) (from : Start) (its : IsRunOf s from) where
  near_is : why_kept s.near.side ≡ why_kept its.run.pair.near
  near_is = ap (λ (p : NearPart). why_kept p.side) its.stands.near

  pub kept_so : (why : Reason) (o : Option Reason) → o ≡ Some why → option_map reason_of o ≡ why_kept s.near.side → IsFate its.run its.steps (fates.Kept why)
  kept_so why o is kept = sym near_is ∙ sym kept ∙ ap (option_map reason_of) is

  pub working_so : (b : Bool) → why_kept s.near.side ≡ None → b ≡ false → ((f : FarSide) → IsFar s.makes f → b ≡ is_moved f)
      → IsFate its.run its.steps fates.Working
  working_so b kept is moved = (sym near_is ∙ kept, sym (moved its.run.pair.far its.stands.far_side) ∙ is)

  abbrev places : Places
  places = places_of its.steps

  here : s.places ≡ places
  here = its.places

  moved_there : (b : Bool) → b ≡ true → ((f : FarSide) → IsFar s.makes f → b ≡ is_moved f) → is_moved its.run.pair.far ≡ true
  moved_there b is moved = sym (moved its.run.pair.far its.stands.far_side) ∙ is

  pub moved_so : (b : Bool) (calls : Calls) (o : Option Calls) → b ≡ true → ((f : FarSide) → IsFar s.makes f → b ≡ is_moved f) → o ≡ Some calls
      → o ≡ calls_of s.places → IsFate its.run its.steps (fates.Moved calls.hold calls.make calls.release)
  moved_so b calls o is moved there made =
      let all = three_so places.hold places.make places.release calls (ap (λ (p : Places). calls_of p) (sym here) ∙ sym made ∙ there) in
      record {
        moved = moved_there b is moved;
        hold = sym (hold_is its.steps) ∙ all.0;
        make = sym (make_is its.steps) ∙ all.1;
        release = all.2;
      }

  pub never_so : (b : Bool) (o : Option Calls) → b ≡ true → ((f : FarSide) → IsFar s.makes f → b ≡ is_moved f) → o ≡ None → o ≡ calls_of s.places → ⊥
  never_so b o is moved there made =
      let done = moved_there b is moved in
      let came = come from s.events its.steps its.run its.ran in
      let none : calls_of places ≡ None = ap (λ (p : Places). calls_of p) (sym here) ∙ sym made ∙ there in
      let unmade : places.make ≡ None → ⊥ = λ e. early_unmoved its.run.pair.far (came.made e) done in
      three_none places.hold places.make places.release none
      (λ e. early_unmoved its.run.pair.far (ap is_early (came.held e).1) done) unmade (λ e. unmade (came.released e))
