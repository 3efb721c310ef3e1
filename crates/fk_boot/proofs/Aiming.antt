-- What objects lead to is there once all are made.
use Rattle.std.proofs.Common.{◌≡◌, ℕ, ◌+◌, ◌<◌, Bool, true, false, not, ◌&&◌, ◌||◌, ◌==◌, List, [], ◌∷◌, ◌++◌, length, get_or, reverse, Option, Some}
use Rattle.std.proofs.Common.{None, is_some, IsSome, Ok, All, refl, sym, subst, ◌∙◌, arith, option_map}
use Rattle.std.proofs.lemmas.List.Elements.{All-nil, All-cons, All-head, All-tail, All-get_or, All-from_get_or}
use Rattle.std.proofs.lemmas.List.Folds.{list_any_at}
use Rattle.std.proofs.lemmas.Option.{IfSome_then}
use Rattle.std.proofs.lemmas.Slice.Eq.{bytes_eq-Decides}
use Rattle.std.specs.List.{find, list_any}
use Rattle.std.specs.Str.{bytes_eq}
use Rattle.fk_model.specs.Places.{Path}
use Rattle.fk_model.specs.Objects.{Body, kind_of}
use Rattle.fk_model.specs.Valid.{kind_there, birth_at}
use Rattle.fk_model.specs.World.{World}
use Rattle.fk_store.proofs.InStore.finding.LookUps.{birth_at-space_at}
use Rattle.fk_store.specs.Store.Contents.{Contents}
use Rattle.fk_store.specs.Store.Paths.{space_at}
use Rattle.fk_store.specs.Store.World.{world}
use Rattle.fk_scenario.specs.Fields.Paths.{enclosing}
use Rattle.fk_scenario.specs.declared.entries.types.SpaceEntry.{SpaceEntry}
use Rattle.fk_scenario.specs.declared.entries.types.ObjectEntry.{ObjectEntry}
use Rattle.fk_scenario.specs.declared.entries.types.Spec.{Spec}
use Rattle.fk_scenario.specs.declared.entries.types.Spec.TheVariants.{Thread, Mutex, Cond, Portset, Mapping, Region, Port, Reference}
use Rattle.fk_scenario.specs.Scenario.Aims.{object_with, is_region_spec, is_port_spec, can_be_referred_to, is_one, entry_space, aims_well, aims_from}
use Rattle.fk_scenario.specs.Sections.Kept.{EachAfter, KeepsObject}
use Rattle.fk_scenario.specs.Sections.Objects.{has_object}
use Rattle.fk_scenario.specs.Sections.Spaces.{has_space, has_space_or_root}
use Rattle.fk_boot.specs.MadeSoFar.{StandsAt, AimStands, CanAim, HasObjects}
use Rattle.fk_boot.proofs.Walks.{last}

-- ---- where something stands its space is

pub above_there : (m : Contents) (slots : List ℕ) → StandsAt (world m) slots → IsSome (birth_at (world m) (reverse (enclosing slots)))
unfolding world kind_there
above_there m slots h = by (space_at m (reverse (enclosing slots))) refl
  where
    by : (o : Option ℕ) → space_at m (reverse (enclosing slots)) ≡ o → IsSome (birth_at (world m) (reverse (enclosing slots)))
    by None e = absurd (let there = rw (last slots h.beneath, e) at h.there in cc)
    by (Some n) e = rw (birth_at-space_at m (reverse (enclosing slots)), e) refl

-- ---- a change that leaves kinds leaves what may be aimed at

stands-still : (w v : World) (slots : List ℕ) → kind_there v ≡ kind_there w → StandsAt w slots → StandsAt v slots
stands-still w v slots e h = record { beneath = h.beneath; there = rw e h.there }

aim-still : (w v : World) (spec : Spec) → kind_there v ≡ kind_there w → AimStands w spec → AimStands v spec
aim-still w v (Mapping region first count offset write) e h = IfSome_then region h (λ path stands. stands-still w v path e stands)
aim-still w v (Region first count write keeper) e h = IfSome_then keeper h (λ path stands. stands-still w v path e stands)
aim-still w v (Reference to) e h = IfSome_then to h (λ path stands. stands-still w v path e stands)
aim-still w v (Port set) e h = tt
aim-still w v (Thread entry regs stops) e h = tt
aim-still w v (Mutex locked) e h = tt
aim-still w v Cond e h = tt
aim-still w v Portset e h = tt

-- the next object may still be aimed
pub next-aim : (w v : World) (xs : List ObjectEntry) (i : ℕ) (x : ObjectEntry) →
    i < length xs → x ≡ get_or xs i x → kind_there v ≡ kind_there w → All (CanAim w) xs → CanAim v x
next-aim w v xs i x h is e all =
    let can : CanAim w x = subst (CanAim w) (sym is) (All-get_or (CanAim w) xs i x h all) in
    record { itself = stands-still w v x.path e can.itself; aim = aim-still w v x.spec e can.aim }

-- ---- what a scenario's objects aim at is there

-- what is found passes, and is one of the list
pub find-passes : {X : Type 0} (P : X → Type 0) (test : X → Bool) (xs : List X) (x : X) → find test xs ≡ Some x → All P xs → (test x ≡ true) × P x
find-passes P test [] x e all = absurd (cc)
find-passes P test (y ∷ ys) x e all = by (test y) refl (λ rest. find-passes P test ys x rest (All-tail P y ys all))
  where
    by : (b : Bool) → test y ≡ b → (find test ys ≡ Some x → (test x ≡ true) × P x) → (test x ≡ true) × P x
    by true t later = let same : y ≡ x = (let here = rw t at e in cc) in subst (λ z. (test z ≡ true) × P z) same (t, All-head P y ys all)
    by false t later = later (rw t at e)

any-found : {X : Type 0} (test : X → Bool) (xs : List X) (x : X) → find test xs ≡ Some x → list_any test xs ≡ true
any-found test [] x e = absurd (cc)
any-found test (y ∷ ys) x e = by (test y) refl (λ rest. any-found test ys x rest)
  where
    by : (b : Bool) → test y ≡ b → (find test ys ≡ Some x → list_any test ys ≡ true) → list_any test (y ∷ ys) ≡ true
    by true t later = rw t refl
    by false t later = rw t (later (rw t at e))

pub all-inside : (spaces : List SpaceEntry) (done os : List ObjectEntry) → EachAfter (KeepsObject spaces) done os →
    All (λ (o : ObjectEntry). 0 < length o.path) os
all-inside spaces done [] each = All-nil (λ (o : ObjectEntry). 0 < length o.path)
all-inside spaces done (o ∷ os) each = All-cons (λ (o : ObjectEntry). 0 < length o.path) o os each.0.inside (all-inside spaces (done ++ o ∷ []) os each.1)

some-kind : (w : World) (x : Path) → is_some (w.body x) ≡ true → IsSome (kind_there w x)
unfolding kind_there
some-kind w x h = by (w.body x) h
  where
    by : (b : Option Body) → is_some b ≡ true → IsSome (option_map kind_of b)
    by None h = absurd (cc)
    by (Some b) h = refl

pub or_right : (a b : Bool) → b ≡ true → (a || b) ≡ true
or_right true b h = refl
or_right false b h = h

or_left : (a b : Bool) → a ≡ true → (a || b) ≡ true
or_left true b h = refl
or_left false b h = absurd (cc)

space-stands-at : (w : World) (spaces : List SpaceEntry) (objects : List ObjectEntry) (slots : List ℕ) →
    HasObjects w spaces objects → 0 < length slots → has_space spaces slots ≡ true → StandsAt w slots
space-stands-at w spaces objects slots h beneath has = record {
  beneath = beneath;
  there = some-kind w (reverse slots) (h.alone slots ∙ or_left (has_space_or_root spaces slots) (has_object objects slots)
      (or_right (length slots == 0) (has_space spaces slots) has));
}

object-stands-at : (w : World) (spaces : List SpaceEntry) (objects : List ObjectEntry) (slots : List ℕ) →
    HasObjects w spaces objects → 0 < length slots → has_object objects slots ≡ true → StandsAt w slots
object-stands-at w spaces objects slots h beneath has = record {
  beneath = beneath;
  there = some-kind w (reverse slots) (h.alone slots ∙ or_right (has_space_or_root spaces slots) (has_object objects slots) has);
}

-- an object that is found at a path stands there
pub one-stands : (w : World) (spaces : List SpaceEntry) (objects : List ObjectEntry) (test : Spec → Bool) (path : List ℕ) →
    HasObjects w spaces objects → All (λ (o : ObjectEntry). 0 < length o.path) objects
    → is_one test (object_with objects path) ≡ true → StandsAt w path
one-stands w spaces objects test path h inside one = by (object_with objects path) refl
  where
    by : (found : Option ObjectEntry) → object_with objects path ≡ found → StandsAt w path
    by None e = absurd (let gone = rw e at one in cc)
    by (Some o) e =
        let is = find-passes (λ (o : ObjectEntry). 0 < length o.path) (λ (o : ObjectEntry). bytes_eq o.path path) objects o e inside in
        let same : o.path ≡ path = (bytes_eq-Decides o.path path).0 is.0 in
        object-stands-at w spaces objects path h (rw (← same) is.1) (any-found (λ (o : ObjectEntry). bytes_eq o.path path) objects o e)

pub both-hold : (a b : Bool) → (a && b) ≡ true → (a ≡ true) × (b ≡ true)
both-hold true b h = (refl, h)
both-hold false b h = absurd (cc)

longer-than : (slots : List ℕ) → not (length slots == 0) ≡ true → 0 < length slots
longer-than [] h = absurd (cc)
longer-than (k ∷ slots) h = omega arith

-- an object of a scenario aims at what is there
aims-stand : (w : World) (spaces : List SpaceEntry) (objects : List ObjectEntry) (space : List ℕ) (spec : Spec) →
    HasObjects w spaces objects → All (λ (o : ObjectEntry). 0 < length o.path) objects
    → aims_well spaces objects space spec ≡ true → AimStands w spec
aims-stand w spaces objects space (Mapping (Some region) first count offset write) h inside well =
    one-stands w spaces objects is_region_spec region h inside well
aims-stand w spaces objects space (Mapping None first count offset write) h inside well = tt
aims-stand w spaces objects space (Region first count write (Some keeper)) h inside well = one-stands w spaces objects is_port_spec keeper h inside well
aims-stand w spaces objects space (Region first count write None) h inside well = tt
aims-stand w spaces objects space (Reference None) h inside well = tt
aims-stand w spaces objects space (Reference (Some to)) h inside well =
    let parts = both-hold (not (length to == 0)) (has_space spaces to || is_one can_be_referred_to (object_with objects to)) well in
    by (has_space spaces to) refl (longer-than to parts.0) parts.1
  where
    by : (b : Bool) → has_space spaces to ≡ b → 0 < length to → (b || is_one can_be_referred_to (object_with objects to)) ≡ true → StandsAt w to
    by true e beneath one = space-stands-at w spaces objects to h beneath e
    by false e beneath one = one-stands w spaces objects can_be_referred_to to h inside one
aims-stand w spaces objects space (Port set) h inside well = tt
aims-stand w spaces objects space (Thread entry regs stops) h inside well = tt
aims-stand w spaces objects space (Mutex locked) h inside well = tt
aims-stand w spaces objects space Cond h inside well = tt
aims-stand w spaces objects space Portset h inside well = tt

-- each of a scenario's objects aims well
pub each-aims : (spaces : List SpaceEntry) (objects : List ObjectEntry) (index : ℕ) (os : List ObjectEntry) →
    aims_from spaces objects index os ≡ Ok tt → All (λ (o : ObjectEntry). aims_well spaces objects (entry_space o) o.spec ≡ true) os
unfolding aims_from
each-aims spaces objects index [] e = All-nil (λ (o : ObjectEntry). aims_well spaces objects (entry_space o) o.spec ≡ true)
each-aims spaces objects index (o ∷ os) e = by (aims_well spaces objects (entry_space o) o.spec) refl (λ rest. each-aims spaces objects (index + 1) os rest)
  where
    by : (b : Bool) → aims_well spaces objects (entry_space o) o.spec ≡ b
        → (aims_from spaces objects (index + 1) os ≡ Ok tt → All (λ (o : ObjectEntry). aims_well spaces objects (entry_space o) o.spec ≡ true) os)
        → All (λ (o : ObjectEntry). aims_well spaces objects (entry_space o) o.spec ≡ true) (o ∷ os)
    by true t later = All-cons (λ (o : ObjectEntry). aims_well spaces objects (entry_space o) o.spec ≡ true) o os t (later (rw t at e))
    by false t later = absurd (let refused = rw t at e in cc)

-- one of a scenario's objects may aim where its entry says
one-can : (w : World) (spaces : List SpaceEntry) (objects : List ObjectEntry) (i : ℕ) (d : ObjectEntry) → HasObjects w spaces objects
    → All (λ (o : ObjectEntry). 0 < length o.path) objects
    → All (λ (o : ObjectEntry). aims_well spaces objects (entry_space o) o.spec ≡ true) objects → i < length objects → CanAim w (get_or objects i d)
one-can w spaces objects i d h inside well k =
    let o = get_or objects i d in
    let here : bytes_eq o.path o.path ≡ true = (bytes_eq-Decides o.path o.path).1 refl in
    let has : has_object objects o.path ≡ true = list_any_at (λ (t : ObjectEntry). bytes_eq t.path o.path) objects i d k here in
    record {
      itself = object-stands-at w spaces objects o.path h (All-get_or (λ (o : ObjectEntry). 0 < length o.path) objects i d k inside) has;
      aim = aims-stand w spaces objects (entry_space o) o.spec h inside
          (All-get_or (λ (o : ObjectEntry). aims_well spaces objects (entry_space o) o.spec ≡ true) objects i d k well);
    }

-- all of them may
pub all-can : (w : World) (spaces : List SpaceEntry) (objects : List ObjectEntry) → HasObjects w spaces objects
    → EachAfter (KeepsObject spaces) [] objects → aims_from spaces objects 0 objects ≡ Ok tt → All (CanAim w) objects
all-can w spaces [] h keeps aims = All-nil (CanAim w)
all-can w spaces (o ∷ os) h keeps aims =
    let objects = o ∷ os in
    All-from_get_or (CanAim w) objects o (λ i k. one-can w spaces objects i o h
    (all-inside spaces [] objects keeps) (each-aims spaces objects 0 objects aims) k)
