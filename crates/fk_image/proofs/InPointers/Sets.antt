-- Sets of places, asked for a place.
use Rattle.std.proofs.Common.{◌≡◌, ℕ, ◌+◌, ◌<◌, Bool, true, false, cond, eqb, ◌&&◌, ◌||◌, List, [], ◌∷◌, length, get_or, drop, refl, sym, ap, ◌∙◌, arith, inl}
use Rattle.std.proofs.Common.{inr}
use Rattle.std.specs.Prelude.{◌==◌}
use Rattle.std.specs.declared.cmp.Ordering.{Ordering}
use Rattle.std.specs.Ordering.{nat_cmp, ordering_then, is_eq}
use Rattle.std.proofs.lemmas.Bool.{cases_lt, lt-ltb, le-ltb, ne_eqb, eq-eqb}
use Rattle.std.specs.List.{list_any}
use Rattle.std.specs.BTreeSet.{contains}
use Rattle.std.specs.BTreeMap.{is_at}
use Rattle.fk_image.specs.declared.image.image.SpaceRec.{SpaceRec}
use Rattle.fk_image.specs.Image.Links.{lies_in, has_space_at}
use Rattle.fk_image.specs.Format.Offsets.{Named, with_thread}
use Rattle.fk_image.specs.declared.pointers.places.Place.{Place}
use Rattle.fk_image.specs.declared.pointers.places.Places.{Places}
use Rattle.fk_image.specs.contracts.pointers.places.PlaceOrd.TheImpl.{cmp-value}
use Rattle.fk_image.specs.Pointers.Places.{is_place, has_place}
use Rattle.fk_image.proofs.InPointers.Within.{from}

-- the first of two comparisons, and the second where it finds them equal
compared : (x y : ℕ) (rest : Ordering) → is_eq (ordering_then (nat_cmp x y) rest) ≡ (eqb x y && is_eq rest)
compared x y rest = elim (cases_lt x y) [
  | inl lt ↦ rw (lt-ltb x y lt, ne_eqb x y (λ e. omega arith)) refl
  | inr ge ↦ elim (cases_lt y x) [
    | inl gt ↦ rw (le-ltb x y ge, ne_eqb x y (λ e. omega arith)) refl
    | inr le ↦ let same : x ≡ y = omega arith in rw (le-ltb x y ge, eq-eqb x y same) refl
  ]
]

equal : (x y : ℕ) → is_eq (nat_cmp x y) ≡ eqb x y
equal x y = elim (cases_lt x y) [
  | inl lt ↦ rw (lt-ltb x y lt, ne_eqb x y (λ e. omega arith)) refl
  | inr ge ↦ elim (cases_lt y x) [
    | inl gt ↦ rw (le-ltb x y ge, ne_eqb x y (λ e. omega arith)) refl
    | inr le ↦ let same : x ≡ y = omega arith in rw (le-ltb x y ge, eq-eqb x y same) refl
  ]
]

same_place : (a b : Place) → is_at (cmp-value.it a) b ≡ (a.space == b.space && a.slot == b.slot)
same_place a b = compared a.space b.space (nat_cmp a.slot b.slot) ∙ ap (λ (e : Bool). eqb a.space b.space && e) (equal a.slot b.slot)

cond-or : (a b : Bool) → cond a true b ≡ (a || b)
cond-or true b = refl
cond-or false b = refl

-- ---- one more place

has_is : (places : Places) (space slot : ℕ) → contains cmp-value.it places.set (record { space = space; slot = slot }) ≡ has_place places space slot
has_is places space slot = ap (λ (f : Place → Bool). list_any f places.set.keys) (λ i p. same_place (record { space = space; slot = slot }) p i)

pub inserted : (old new : Places) (place : Place) →
    ((q : Place) → contains cmp-value.it new.set q ≡ cond (is_at (cmp-value.it place) q) true (contains cmp-value.it old.set q))
    → has_place new ≡ with_thread place.space place.slot (has_place old)
inserted old new place updates = λ i space slot. by space slot i
  where
    by : (space slot : ℕ) → has_place new space slot ≡ with_thread place.space place.slot (has_place old) space slot
    by space slot =
        let q : Place = record { space = space; slot = slot } in
        sym (has_is new space slot) ∙ updates q ∙ cond-or (is_at (cmp-value.it place) q) (contains cmp-value.it old.set q)
        ∙ ap (λ (b : Bool). b || contains cmp-value.it old.set q) (same_place place q)
        ∙ ap (λ (b : Bool). (place.space == space && place.slot == slot) || b) (has_is old space slot)

-- ---- the places of spaces

turned : (a b c total : Bool) → (a || (b || c)) ≡ total → ((b || a) || c) ≡ total
turned true true c total e = e
turned true false c total e = e
turned false true c total e = e
turned false false c total e = e

pub one_more : (old new : Places) (spaces : List SpaceRec) (i : ℕ) (s : SpaceRec) (space slot : ℕ) → i < length spaces → s ≡ get_or spaces i s
    → has_place new ≡ with_thread s.parent s.slot (has_place old)
    → (has_place old space slot || list_any (lies_in space slot) (drop i spaces)) ≡ list_any (lies_in space slot) spaces
    → (has_place new space slot || list_any (lies_in space slot) (drop (i + 1) spaces)) ≡ list_any (lies_in space slot) spaces
one_more old new spaces i s space slot lt is more e =
    let old_one : (has_place old space slot || (lies_in space slot s || list_any (lies_in space slot) (drop (i + 1) spaces)))
    ≡ list_any (lies_in space slot) spaces =
    sym (ap (λ (ss : List SpaceRec). has_place old space slot || list_any (lies_in space slot) ss) (from spaces i s lt is)) ∙ e in
    ap (λ (named : Named). named space slot || list_any (lies_in space slot) (drop (i + 1) spaces)) more
    ∙ turned (has_place old space slot) (lies_in space slot s) (list_any (lies_in space slot) (drop (i + 1) spaces))
    (list_any (lies_in space slot) spaces) old_one

pub all_places : (places : Places) (spaces others : List SpaceRec) →
    others ≡ drop 1 spaces → ((space slot : ℕ) → has_place places space slot ≡ list_any (lies_in space slot) others) → has_place places ≡ has_space_at spaces
unfolding has_space_at
all_places places spaces others is each = λ i space slot. (each space slot ∙ ap (λ (ss : List SpaceRec). list_any (lies_in space slot) ss) is) i
