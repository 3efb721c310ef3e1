-- Worlds in which few slots are ever taken: walks need to look at these alone.
use Rattle.std.proofs.Common.{◌≡◌, ℕ, zero, suc, eqb, Bool, true, false, List, [], ◌∷◌, ◌++◌, filter, flat_map, Option, Some, None, is_some, if◌then◌else◌}
use Rattle.std.proofs.Common.{refl, sym, ◌∙◌, ap}
use Rattle.std.specs.List.{list_all, list_any}
use Rattle.fk_model.specs.declared.limits.TheConstants.{SLOTS}
use Rattle.fk_model.specs.Places.{Path, same_path}
use Rattle.fk_model.specs.Objects.{Body, or_else}
use Rattle.fk_model.specs.Objects.Body.{Space}
use Rattle.fk_model.specs.World.{World}
use Rattle.fk_model.specs.Searches.{slots, residents, depth, beneath_by, beneath, objects}
use Rattle.fk_model.specs.Cut.{cut}
use Rattle.fk_model.specs.Closed.{Place, far_field, when_bad, leads_in_from, led_to_from_outside, first_place, open_place}
use Rattle.examples_moves.specs.Worked.{Page, body_in, world_of}
use Rattle.examples_moves.proofs.Tested.{and_left, and_right}
use Rattle.fk_model.proofs.walks.PlaceLaws.{same_path_eq}

abbrev pub is_among : List ℕ → ℕ → Bool
is_among few k = list_any (eqb k) few

-- nothing stands in any other slot
pub record HasFew (few : List ℕ) (w : World) : Type 0 where
  pub none : (k : ℕ) (s : Path) → is_among few k ≡ false → w.body (k ∷ s) ≡ None

-- the few are listed rising
abbrev pub are_rising : List ℕ → Type 0
are_rising few = filter (is_among few) (slots SLOTS) ≡ few

-- ---- walks through the few

filter-filter : (p q : ℕ → Bool) → ((k : ℕ) → q k ≡ false → p k ≡ false) → (ks : List ℕ) → filter p ks ≡ filter p (filter q ks)
filter-filter p q less [] = refl
filter-filter p q less (k ∷ ks) = by (q k) refl (filter-filter p q less ks)
  where
    by : (b : Bool) →
        q k ≡ b → filter p ks ≡ filter p (filter q ks) → (if p k then k ∷ filter p ks else filter p ks) ≡ filter p (if b then k ∷ filter q ks else filter q ks)
    by true e rest = rw rest refl
    by false e rest = rw (less k e) rest

flat_map-same : (f g : ℕ → List Path) → ((k : ℕ) → f k ≡ g k) → (ks : List ℕ) → flat_map f ks ≡ flat_map g ks
flat_map-same f g same [] = refl
flat_map-same f g same (k ∷ ks) = rw (same k, flat_map-same f g same ks) refl

-- the residents of a space among the few
abbrev few_residents : List ℕ → World → Path → List ℕ
few_residents few w s = filter (λ k. is_some (w.body (k ∷ s))) few

few_residents-all : (few : List ℕ) → are_rising few → (w : World) → HasFew few w → (s : Path) → residents w s ≡ few_residents few w s
unfolding residents
few_residents-all few rising w has s =
    filter-filter (λ k. is_some (w.body (k ∷ s))) (is_among few) (λ k none. ap is_some (has.none k s none)) (slots SLOTS)
    ∙ ap (filter (λ k. is_some (w.body (k ∷ s)))) rising

unfoldable pub walk : List ℕ → ℕ → World → Path → List Path
walk few zero w s = []
walk few (suc n) w s = flat_map (λ k. (k ∷ s) ∷ walk few n w (k ∷ s)) (few_residents few w s)

walk-all : (few : List ℕ) → are_rising few → (n : ℕ) (w : World) → HasFew few w → (s : Path) → beneath_by n w s ≡ walk few n w s
unfolding beneath_by walk
walk-all few rising zero w has s = refl
walk-all few rising (suc n) w has s =
    ap (flat_map (λ k. (k ∷ s) ∷ beneath_by n w (k ∷ s))) (few_residents-all few rising w has s)
    ∙ flat_map-same (λ k. (k ∷ s) ∷ beneath_by n w (k ∷ s))
    (λ k. (k ∷ s) ∷ walk few n w (k ∷ s)) (λ k. ap (λ below. (k ∷ s) ∷ below) (walk-all few rising n w has (k ∷ s))) (few_residents few w s)

objects-few : (few : List ℕ) → are_rising few → (w : World) → HasFew few w → objects w ≡ walk few depth w []
unfolding beneath
objects-few few rising w has = walk-all few rising depth w has []

-- ---- the first open place, by such walks

-- by the objects of the whole world and those of the cut
unfoldable pub open_among : World → Path → ℕ → List Path → List Path → Option Place
open_among w nester slot all inside =
    first_place (λ q. or_else (far_field ((cut w nester slot).body q))
    (when_bad (list_any (leads_in_from w (slot ∷ nester) (q ++ slot ∷ nester)) ([] ∷ all)) led_to_from_outside)) slot ([] ∷ inside)

cut-few : (few : List ℕ) (w : World) → HasFew few w → (nester : Path) (slot : ℕ) → HasFew few (cut w nester slot)
unfolding cut
cut-few few w has nester slot = record { none = λ k s none. rw (has.none k (s ++ slot ∷ nester) none) refl }

pub open-few : (few : List ℕ) → are_rising few → (w : World) → HasFew few w → (nester : Path) (slot : ℕ) (place : Option Place) →
    open_among w nester slot (walk few depth w []) (walk few depth (cut w nester slot) []) ≡ place → open_place w nester slot ≡ place
unfolding open_place open_among
open-few few rising w has nester slot place found =
    ap (λ all. open_among w nester slot all (objects (cut w nester slot))) (objects-few few rising w has)
    ∙ ap (open_among w nester slot (walk few depth w [])) (objects-few few rising (cut w nester slot) (cut-few few w has nester slot)) ∙ found

-- ---- a world by lists has what its list names

abbrev pub is_at_few : List ℕ → Path → Bool
is_at_few few [] = true
is_at_few few (k ∷ s) = is_among few k

list-few : (few : List ℕ) (es : List (Path × Body)) →
    list_all (λ e. is_at_few few e.0) es ≡ true → (k : ℕ) (s : Path) → is_among few k ≡ false → body_in es (k ∷ s) ≡ None
unfolding body_in
list-few few [] all k s none = refl
list-few few (e ∷ es) all k s none = by (same_path e.0 (k ∷ s)) refl (list-few few es (and_right _ _ all) k s none)
  where
    apart : same_path e.0 (k ∷ s) ≡ true → true ≡ false
    apart same = let here : e.0 ≡ k ∷ s = same_path_eq e.0 (k ∷ s) same in sym (and_left _ _ all) ∙ (ap (is_at_few few) here ∙ none)

    by : (b : Bool) → same_path e.0 (k ∷ s) ≡ b → body_in es (k ∷ s) ≡ None → (if b then Some e.1 else body_in es (k ∷ s)) ≡ None
    by true same rest = let no = apart same in cc
    by false same rest = rest

pub world-few : (few : List ℕ) (es : List (Path × Body)) (pages : List Page) → list_all (λ e. is_at_few few e.0) es ≡ true → HasFew few (world_of es pages)
unfolding world_of
world-few few es pages all = record { none = list-few few (([], Space 0 None) ∷ es) all }
