-- A hold leaves where the subtree isn't closed.
use Rattle.std.proofs.Common.{◌≡◌, ℕ, zero, ◌≤◌, Bool, true, false, not, ◌&&◌, is_some, [], ◌∷◌, ◌++◌, length, Option, Some, None, refl, sym, ap, subst, arith}
use Rattle.std.proofs.Common.{length-append, ◌∙◌, inl, inr}
use Rattle.std.specs.List.{list_any}
use Rattle.std.proofs.lemmas.Bool.{and_parts}
use Rattle.fk_model.specs.declared.limits.TheConstants.{LAST_PORTER_SLOT}
use Rattle.fk_model.specs.Places.{Path, is_within, leads_to}
use Rattle.fk_model.specs.Places.Ptr.{At}
use Rattle.fk_model.specs.Objects.{Body}
use Rattle.fk_model.specs.Objects.Body.{Space}
use Rattle.fk_model.specs.World.{World, edited, apply}
use Rattle.fk_model.specs.World.Edit.{SetHolder}
use Rattle.fk_model.specs.Searches.{objects, depth}
use Rattle.fk_model.specs.Holds.{holder_of}
use Rattle.fk_model.specs.Freezing.{body_pointers}
use Rattle.fk_model.specs.ObjectRows.{is_scratch}
use Rattle.fk_model.specs.Valid.{IsValid, kind_there}
use Rattle.fk_model.specs.Closed.{leads_in_from, is_holders_scratch, is_led_to}
use Rattle.fk_model.specs.Cut.{ports_of, cut_by, cut, seen_by}
use Rattle.fk_model.proofs.walks.Members.{IsIn, any_in, of_any}
use Rattle.fk_model.proofs.walks.WalkLaws.{in_objects}
use Rattle.fk_model.proofs.walks.PlaceLaws.{same_path_refl, same_path_ne, strip-append}
use Rattle.laws_moves.proofs.InFrozen.FrozenCut.{port_by_kind}
use Rattle.laws_jobs.specs.Leads.{held_world, HoldKeepsOpenPlace}
use Rattle.laws_jobs.proofs.LeadLaws.{pointers_any, some_leads, leads_found, open_same}
use Rattle.laws_jobs.proofs.Own.{same_kinds}

module _ (nester : Path) (slot birth : ℕ) (w : World) (there : w.body (slot ∷ nester) ≡ Some (Space birth None)) (empty : (y : Path)
    → is_scratch nester y ≡ true → w.body y ≡ None) (valid : IsValid w)
    (valid_after : IsValid (held_world nester slot w)) (few : w.next ≤ depth) where
  abbrev root : Path
  root = slot ∷ nester

  abbrev v : World
  v = held_world nester slot w

  held : holder_of (v.body root) ≡ Some (At (LAST_PORTER_SLOT ∷ nester))
  unfolding apply edited
  held = rw (same_path_refl root, there) refl

  few_after : v.next ≤ depth
  unfolding apply
  few_after = few

  other : (y : Path) → is_within root y ≡ false → v.body y ≡ w.body y
  unfolding apply
  other y out = rw (same_path_ne y root (λ e.
      let on : is_within root y ≡ true = subst (λ (x : Path). is_within root x ≡ true) (sym e) (ap is_some (strip-append root [])) in
      let both = sym on ∙ out in cc)) refl

  ports_same : ports_of v nester slot ≡ ports_of w nester slot
  unfolding kind_there
  ports_same = λ i j. by j i
    where
      by : (j : ℕ) → ports_of v nester slot j ≡ ports_of w nester slot j
      by j = rw (
        port_by_kind (v.body (j ∷ nester)),
        port_by_kind (w.body (j ∷ nester)),
        same_kinds w root (SetHolder (Some (At (LAST_PORTER_SLOT ∷ nester)))) (j ∷ nester),
      ) refl

  same_cut : cut v nester slot ≡ cut w nester slot
  unfolding cut apply edited seen_by
  same_cut = ap (λ (ports : ℕ → Bool). cut_by ports v nester slot) ports_same
      ∙ (λ i. record { body = λ q. body_same q i; page = λ q page. w.page (q ++ root) page; next = zero })
    where
      body_same : (q : Path) → (cut_by (ports_of w nester slot) v nester slot).body q ≡ (cut_by (ports_of w nester slot) w nester slot).body q
      body_same [] = rw (same_path_refl root, there) refl
      body_same (k ∷ q) = rw (same_path_ne (k ∷ (q ++ root)) root (λ e. omega (arith, ap length e, length-append q root))) refl

  -- before the hold nobody's scratch is left out
  none_out : (y : Path) → is_holders_scratch w root y ≡ false
  none_out y = rw there refl

  test_is : (z y : Path) → leads_in_from w root z y ≡ (not (is_within root y) && not false && list_any (leads_to z) (body_pointers (w.body y)))
  test_is z y = rw (none_out y, pointers_any z (w.body y)) refl

  not_off : (b : Bool) → not b ≡ true → b ≡ false
  not_off true h = cc
  not_off false h = refl

  plain : (z y : Path) → list_any (leads_to z) (body_pointers (w.body y)) ≡ true → is_scratch nester y ≡ false
  plain z y led = by (is_scratch nester y) refl
    where
      by : (t : Bool) → is_scratch nester y ≡ t → t ≡ false
      by false e = refl
      by true e =
          let off : list_any (leads_to z) (body_pointers (w.body y)) ≡ false = ap (λ (o : Option Body). list_any (leads_to z) (body_pointers o)) (empty y e) in
          let both = sym led ∙ off in cc

  listed : (z y : Path) → list_any (leads_to z) (body_pointers (w.body y)) ≡ true → IsIn y ([] ∷ objects w)
  listed z [] led = inl refl
  listed z (k ∷ s) led = inr (in_objects w valid.consistent valid.rooted few k s (live (w.body (k ∷ s)) led))
    where
      live : (o : Option Body) → list_any (leads_to z) (body_pointers o) ≡ true → is_some o ≡ true
      live None h = cc
      live (Some b) h = refl

  leads_same : (z : Path) → is_led_to v root z ≡ is_led_to w root z
  leads_same z = by (is_led_to w root z) (is_led_to v root z) refl refl
    where
      by : (a b : Bool) → is_led_to w root z ≡ a → is_led_to v root z ≡ b → b ≡ a
      by true true e f = refl
      by false false e f = refl
      by true false e f =
          let found = of_any (leads_in_from w root z) ([] ∷ objects w) e in
          let both = and_parts (not (is_within root found.0) && not false) (list_any (leads_to z) (body_pointers (w.body found.0))) (sym (test_is z found.0)
          ∙ found.2) in
          let out = not_off (is_within root found.0) (and_parts (not (is_within root found.0)) (not false) both.0).0 in
          let on : list_any (leads_to z) (body_pointers (v.body found.0))
          ≡ true = subst (λ (o : Option Body). list_any (leads_to z) (body_pointers o) ≡ true) (sym (other found.0 out)) both.1 in
          sym f ∙ leads_found nester slot v held valid_after few_after z found.0 (record { outside = out; scratch = plain z found.0 both.1; leads = on })
      by false true e f =
          let its = some_leads nester slot v held z f in
          let on : list_any (leads_to z) (body_pointers (w.body its.0))
          ≡ true = subst (λ (o : Option Body). list_any (leads_to z) (body_pointers o) ≡ true) (other its.0 its.1.outside) its.1.leads in
          let found = any_in (leads_in_from w root z) its.0 ([] ∷ objects w) (listed z its.0 on) (test_is z its.0 ∙ (rw (its.1.outside, on) refl)) in
          sym found ∙ e

pub hold_keeps_open_place : HoldKeepsOpenPlace
hold_keeps_open_place nester slot birth w there empty valid valid_after few =
    open_same w (held_world nester slot w) nester slot (same_cut nester slot birth w there empty valid valid_after few)
    (λ q. leads_same nester slot birth w there empty valid valid_after few (q ++ slot ∷ nester))
