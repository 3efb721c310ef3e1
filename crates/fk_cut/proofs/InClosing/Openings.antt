-- Openings: the first object of a subtree that says that it isn't closed.
use Rattle.std.proofs.Common.{◌≡◌, ℕ, ◌+◌, ◌<◌, ◌≤◌, Bool, false, List, [], ◌∷◌, ◌++◌, true, drop, get_or, length, map, reverse, is_some, Option}
use Rattle.std.proofs.Common.{Some, None, Result, Ok, Err, IfOk, option_map, unwrap_or, refl, sym, ap, subst, ◌∙◌}
use Rattle.std.specs.List.{AllByRecursion}
use Rattle.std.proofs.lemmas.List.{reverse-reverse, drop_more, at_drop_more, at_drop_all}
use Rattle.fk_model.specs.declared.body.Body.{Body as StoredBody}
use Rattle.fk_model.specs.Closed.{Place, far_field, when_bad, is_led_to, led_to_from_outside, open_field, first_place, open_place}
use Rattle.fk_model.specs.Cut.{cut, cutting, ports_of, seen_by, unheld}
use Rattle.fk_model.specs.Objects.{or_else}
use Rattle.fk_model.specs.Places.{Path, strip}
use Rattle.fk_model.specs.Searches.{objects}
use Rattle.fk_model.specs.World.{World}
use Rattle.fk_model.proofs.walks.PlaceLaws.{strip-append, strip_some}
use Rattle.fk_store.specs.Store.Bodies.{body_by}
use Rattle.fk_store.specs.Store.Contents.{Contents}
use Rattle.fk_store.specs.Store.Paths.{path}
use Rattle.fk_store.specs.Store.World.{world, place_of}
use Rattle.fk_model.specs.declared.names.Who.{Who}
use Rattle.fk_cut.specs.declared.closing.closing.Place as places
use Rattle.fk_cut.specs.Closing.Places.{placed, place_below, place_at, first_at}
use Rattle.fk_cut.specs.Closing.Walks.{AreObjects, IsPart, seen_body}

module _ (w : World) (nester : Path) (slot : ℕ) where
  pub at_below : (q : Path) → place_at w nester slot (q ++ slot ∷ nester) ≡ place_below w nester slot q
  at_below q = ap (λ o. place_below w nester slot (unwrap_or o [])) (strip-append (slot ∷ nester) q)

  first_below : (qs : List Path) → first_at w nester slot (map (λ q. q ++ slot ∷ nester) qs) ≡ first_place (open_field w nester slot) slot qs
  unfolding first_at
  first_below [] = refl
  first_below (q ∷ qs) = ap (λ o. or_else o (first_at w nester slot (map (λ q. q ++ slot ∷ nester) qs))) (at_below q)
      ∙ ap (or_else (place_below w nester slot q)) (first_below qs)

  pub first_more : (x : Path) (xs : List Path) → place_at w nester slot x ≡ None → first_at w nester slot (x ∷ xs) ≡ first_at w nester slot xs
  unfolding first_at
  first_more x xs none = ap (λ o. or_else o (first_at w nester slot xs)) none

  pub first_found : (x : Path) (xs : List Path) (p : Place) → place_at w nester slot x ≡ Some p → first_at w nester slot (x ∷ xs) ≡ Some p
  unfolding first_at
  first_found x xs p some = ap (λ o. or_else o (first_at w nester slot xs)) some

  pub first_none : first_at w nester slot [] ≡ None
  unfolding first_at
  first_none = refl

pub first_of_all : (m : Contents) (nester : Path) (slot : ℕ) (whos : List Who) → AreObjects m nester slot whos →
    first_at (world m) nester slot (map (place_of m) whos) ≡ open_place (world m) nester slot
unfolding open_place
first_of_all m nester slot whos are =
    ap (first_at (world m) nester slot) are ∙ first_below (world m) nester slot ([] ∷ objects (cut (world m) nester slot))

-- ---- one object

pub part_path : (m : Contents) (root who : Who) → IsPart m root who → (q : Path) × (place_of m who ≡ q ++ place_of m root)
part_path m root who part = by (strip (place_of m root) (place_of m who)) refl part.inside
  where
    by : (o : Option Path) → strip (place_of m root) (place_of m who) ≡ o → is_some o ≡ true → (q : Path) × (place_of m who ≡ q ++ place_of m root)
    by None e h = absurd (cc)
    by (Some q) e h = (q, strip_some (place_of m root) (place_of m who) q e)

pub open_when : (m : Contents) (root who : Who) (q : Path) (b : StoredBody) → (world m).body (place_of m who) ≡ Some (body_by (path m) b) →
    place_of m who ≡ q ++ place_of m root → (o led : Option ℕ) → o ≡ far_field (seen_body m root q b) →
    led ≡ when_bad (is_led_to (world m) (place_of m root) (place_of m who)) led_to_from_outside →
    or_else o led ≡ open_field (world m) (path m root.space) root.slot q
unfolding cut
open_when m root who q b there is o led far outside =
    let here : (world m).body (q ++ place_of m root) ≡ Some (body_by (path m) b) = ap (world m).body (sym is) ∙ there in
    ap (λ x. or_else x led) (far ∙ ap (λ x. far_field (option_map
    (λ b. unheld q (seen_by (cutting (ports_of (world m) (path m root.space) root.slot) (path m root.space) root.slot) b)) x)) (sym here))
    ∙ ap (or_else (far_field ((cut (world m) (path m root.space) root.slot).body q)))
    (outside ∙ ap (λ x. when_bad (is_led_to (world m) (place_of m root) x) led_to_from_outside) is)

-- where its field is known
pub place_when : (w : World) (nester : Path) (slot : ℕ) (x q : Path) → x ≡ q ++ slot ∷ nester → (o : Option ℕ) → o ≡ open_field w nester slot q →
    option_map (λ number. record { path = q ++ slot ∷ []; field = number }) o ≡ place_at w nester slot x
place_when w nester slot x q is o says =
    ap (option_map (λ number. record { path = q ++ slot ∷ []; field = number })) says ∙ sym (at_below w nester slot q) ∙ ap (place_at w nester slot) (sym is)

pub no_place : (w : World) (nester : Path) (slot : ℕ) (x q : Path) → x ≡ q ++ slot ∷ nester → None ≡ open_field w nester slot q →
    None ≡ place_at w nester slot x
no_place w nester slot x q is none = place_when w nester slot x q is None none

pub a_place : (w : World) (nester : Path) (slot : ℕ) (x q told : Path) (number : ℕ) → x ≡ q ++ slot ∷ nester →
    Some number ≡ open_field w nester slot q → told ≡ reverse (q ++ slot ∷ []) →
    Some (record { path = reverse told; field = number }) ≡ place_at w nester slot x
a_place w nester slot x q told number is some here =
    ap (λ p. Some (record { path = p; field = number })) (ap reverse here ∙ reverse-reverse (q ++ slot ∷ []))
    ∙ place_when w nester slot x q is (Some number) some

-- ---- all of them

pub open_first : (m : Contents) (nester : Path) (slot : ℕ) (whos items : List Who) {E : Type 0} (r : Result (Option places.Place) E) → items ≡ whos →
    AreObjects m nester slot whos → IfOk r (λ place. option_map placed place ≡ first_at (world m) nester slot (map (place_of m) items)) →
    IfOk r (λ place. option_map placed place ≡ open_place (world m) nester slot)
open_first m nester slot whos items (Ok place) same are first =
    first ∙ ap (λ xs. first_at (world m) nester slot (map (place_of m) xs)) same ∙ first_of_all m nester slot whos are
open_first m nester slot whos items (Err e) same are first = tt

-- the first of those that are left, from one place on
module _ (m : Contents) (nester : Path) (slot : ℕ) (whos : List Who) (i : ℕ) (d : Who) (low : i < length whos) where
  abbrev first_from : ℕ → Option Place
  first_from n = first_at (world m) nester slot (map (place_of m) (drop n whos))

  abbrev all_of : Option Place
  all_of = first_at (world m) nester slot (map (place_of m) whos)

  abbrev here_at : Option Place
  here_at = place_at (world m) nester slot (place_of m (get_or whos i d))

  next_from : first_from i ≡ or_else here_at (first_from (i + 1))
  unfolding first_at
  next_from = at_drop_more (λ xs. first_at (world m) nester slot (map (place_of m) xs)) whos i d low

  pub finds : (found : Option Place) → found ≡ here_at → true ≡ is_some found → first_from i ≡ all_of → found ≡ all_of
  finds None here some so_far = absurd (cc)
  finds (Some p) here some so_far = ap (λ o. or_else o (first_from (i + 1))) here ∙ sym next_from ∙ so_far

  pub goes_past : (found : Option Place) → found ≡ here_at → false ≡ is_some found → first_from i ≡ all_of → first_from (i + 1) ≡ all_of
  goes_past None here none so_far = ap (λ o. or_else o (first_from (i + 1))) here ∙ sym next_from ∙ so_far
  goes_past (Some p) here none so_far = absurd (cc)

  pub parts_past : (root : Who) → AllByRecursion (IsPart m root) (drop i whos) → AllByRecursion (IsPart m root) (drop (i + 1) whos)
  parts_past root parts = (subst (AllByRecursion (IsPart m root)) (drop_more whos i d low) parts).1

abbrev mapped_some : {A B : Type 0} (f : A → B) (o : Option A) → is_some (option_map f o) ≡ is_some o
mapped_some f None = refl
mapped_some f (Some a) = refl

pub kept_some : (t : Bool) (o : Option places.Place) → t ≡ is_some o → t ≡ is_some (option_map placed o)
kept_some t o is = is ∙ sym (mapped_some placed o)

pub none_left : (m : Contents) (nester : Path) (slot : ℕ) (whos : List Who) (i : ℕ) → length whos ≤ i →
    first_at (world m) nester slot (map (place_of m) (drop i whos)) ≡ first_at (world m) nester slot (map (place_of m) whos) →
    None ≡ first_at (world m) nester slot (map (place_of m) whos)
unfolding first_at
none_left m nester slot whos i past so_far =
    sym (at_drop_all (λ xs. first_at (world m) nester slot (map (place_of m) xs)) whos i past) ∙ so_far
