-- A porter that leads a scratch reference anew keeps its hold, the cut, and what leads in.
use Rattle.std.proofs.Common.{◌≡◌, ℕ, ◌≤◌, ◌<◌, Bool, true, false, cond, ◌&&◌, ◌||◌, nat_le, [], ◌∷◌, ◌++◌, length, Option, Some, None, option_map, refl, sym}
use Rattle.std.proofs.Common.{ap, subst, arith, length-append, ◌∙◌, inl, inr}
use Rattle.std.specs.List.{list_any}
use Rattle.std.proofs.lemmas.Bool.{and_parts, leb-true}
use Rattle.fk_model.specs.declared.limits.TheConstants.{LAST_USER_SLOT, FIRST_SCRATCH_SLOT, LAST_SCRATCH_SLOT, LAST_PORTER_SLOT}
use Rattle.fk_model.specs.Places.{Path, same_path, Ptr, leads_to}
use Rattle.fk_model.specs.Places.Ptr.{At}
use Rattle.fk_model.specs.Objects.{Body, kind_of, holds}
use Rattle.fk_model.specs.Objects.Body.{Mapping, Region, Reference}
use Rattle.fk_model.specs.World.{World, Edit, edited, apply}
use Rattle.fk_model.specs.World.Change.{Alter}
use Rattle.fk_model.specs.World.Edit.{SetPointer}
use Rattle.fk_model.specs.Searches.{depth}
use Rattle.fk_model.specs.Holds.{holder_of, decider}
use Rattle.fk_model.specs.Freezing.{body_pointers}
use Rattle.fk_model.specs.StateRows.{is_native}
use Rattle.fk_model.specs.ObjectRows.{is_scratch}
use Rattle.fk_model.specs.Valid.{IsValid, kind_there}
use Rattle.fk_model.specs.Closed.{is_led_to}
use Rattle.fk_model.specs.Cut.{cut}
use Rattle.fk_model.proofs.walks.PlaceLaws.{same_path_eq, same_path_refl, same_path_ne}
use Rattle.laws_moves.proofs.InMachine.validity.Edits.{outline-edited}
use Rattle.laws_moves.specs.Frozen.Frozen.{IsSameInside}
use Rattle.laws_moves.specs.Frozen.Holding.{IsNear, only_reference, IsHolding}
use Rattle.laws_moves.proofs.InFrozen.Frozen.{kind_outline, edited_outline}
use Rattle.laws_moves.proofs.InFrozen.FrozenCut.{same-cut}
use Rattle.laws_jobs.proofs.LeadLaws.{some_leads, leads_found}

-- ---- what leads in is of what is no scratch

module _ (nester : Path) (slot : ℕ) (w v : World) (held : holder_of (w.body (slot ∷ nester)) ≡ Some (At (LAST_PORTER_SLOT ∷ nester)))
    (held_after : holder_of (v.body (slot ∷ nester)) ≡ Some (At (LAST_PORTER_SLOT ∷ nester)))
    (valid : IsValid w) (valid_after : IsValid v) (few : w.next ≤ depth) (few_after : v.next ≤ depth)
    (same : (y : Path) → is_scratch nester y ≡ false → v.body y ≡ w.body y) where
  pub leads_same : (z : Path) → is_led_to v (slot ∷ nester) z ≡ is_led_to w (slot ∷ nester) z
  leads_same z = by (is_led_to w (slot ∷ nester) z) (is_led_to v (slot ∷ nester) z) refl refl
    where
      by : (a b : Bool) → is_led_to w (slot ∷ nester) z ≡ a → is_led_to v (slot ∷ nester) z ≡ b → b ≡ a
      by true true e f = refl
      by false false e f = refl
      by true false e f =
          let its = some_leads nester slot w held z e in
          let there : list_any (leads_to z) (body_pointers (v.body its.0))
          ≡ true = subst (λ (o : Option Body). list_any (leads_to z) (body_pointers o) ≡ true) (sym (same its.0 its.1.scratch)) its.1.leads in
          let on = leads_found nester slot v held_after valid_after few_after z its.0
          (record { outside = its.1.outside; scratch = its.1.scratch; leads = there }) in
          sym f ∙ on
      by false true e f =
          let its = some_leads nester slot v held_after z f in
          let there : list_any (leads_to z) (body_pointers (w.body its.0))
          ≡ true = subst (λ (o : Option Body). list_any (leads_to z) (body_pointers o) ≡ true) (same its.0 its.1.scratch) its.1.leads in
          let on = leads_found nester slot w held valid few z its.0 (record { outside = its.1.outside; scratch = its.1.scratch; leads = there }) in
          sym on ∙ e

-- ---- an edit of a pointer keeps kinds and holders

pub same_kinds : (w : World) (x : Path) (edit : Edit) (y : Path) → kind_there (apply (Alter x edit) w) y ≡ kind_there w y
unfolding apply kind_there
same_kinds w x edit y = by (same_path y x)
  where
    by : (t : Bool) → option_map kind_of (cond t (option_map (edited edit) (w.body y)) (w.body y)) ≡ option_map kind_of (w.body y)
    by true = kind_outline (edited edit) (edited_outline (edited edit) (outline-edited edit)) (w.body y)
    by false = refl

pointed-holder : (to : Ptr) (o : Option Body) → holder_of (option_map (edited (SetPointer to)) o) ≡ holder_of o
unfolding edited
pointed-holder to None = refl
pointed-holder to (Some (Mapping m)) = refl
pointed-holder to (Some (Region r)) = refl
pointed-holder to (Some (Reference old)) = refl
pointed-holder to (Some b) = refl

same_decider : (w : World) (x : Path) (to : Ptr) (y : Path) → decider (apply (Alter x (SetPointer to)) w) y ≡ decider w y
unfolding apply decider
same_decider w x to y = by_path y
  where
    by : (t : Bool) (o : Option Body) → holder_of (cond t (option_map (edited (SetPointer to)) o) o) ≡ holder_of o
    by true o = pointed-holder to o
    by false o = refl

    by_path : (y : Path) → decider (apply (Alter x (SetPointer to)) w) y ≡ decider w y
    by_path [] = by (same_path [] x) (w.body [])
    by_path (k ∷ y) = rw (by_path y, by (same_path (k ∷ y) x) (w.body (k ∷ y))) refl

-- ---- a scratch reference

pub scratch_range : (nester : Path) (r : ℕ) → is_scratch nester (r ∷ nester) ≡ true → (FIRST_SCRATCH_SLOT ≤ r) × (r ≤ LAST_SCRATCH_SLOT)
scratch_range nester s h =
    let both = and_parts (same_path nester nester && nat_le FIRST_SCRATCH_SLOT s) (nat_le s LAST_SCRATCH_SLOT) h in
    let first = and_parts (same_path nester nester) (nat_le FIRST_SCRATCH_SLOT s) both.0 in
    (leb-true FIRST_SCRATCH_SLOT s first.1, leb-true s LAST_SCRATCH_SLOT both.1)

pub inside_apart : (nester : Path) (slot r : ℕ) → slot ≤ LAST_USER_SLOT → LAST_USER_SLOT < r → (q : Path) → same_path (q ++ slot ∷ nester) (r ∷ nester) ≡ false
inside_apart nester slot r low far [] = same_path_ne (slot ∷ nester) (r ∷ nester) (λ e. let same : slot ≡ r = cc in omega (arith, low, same, far))
inside_apart nester slot r low far (j ∷ q) = same_path_ne (j ∷ (q ++ slot ∷ nester)) (r ∷ nester) (λ e. let long = ap length e in
    omega (arith, long, length-append q (slot ∷ nester)))

module _ (nester : Path) (slot : ℕ) (w : World) (r : ℕ) (old to : Ptr) (holding : IsHolding nester slot w) (is : is_scratch nester (r ∷ nester) ≡ true)
    (there : w.body (r ∷ nester) ≡ Some (Reference old)) (near : (x : Path) → leads_to x to ≡ true → IsNear w (slot ∷ nester) x) where
  abbrev root : Path
  root = slot ∷ nester

  abbrev pub pointed : World
  pointed = apply (Alter (r ∷ nester) (SetPointer to)) w

  range : (FIRST_SCRATCH_SLOT ≤ r) × (r ≤ LAST_SCRATCH_SLOT)
  range = scratch_range nester r is

  outside : (q : Path) → same_path (q ++ root) (r ∷ nester) ≡ false
  outside q = let first = range.0 in inside_apart nester slot r holding.low (omega (arith, first)) q

  pub other_body : (y : Path) → same_path y (r ∷ nester) ≡ false → pointed.body y ≡ w.body y
  unfolding apply
  other_body y apart = rw apart refl

  pub own_body : pointed.body (r ∷ nester) ≡ Some (Reference to)
  unfolding apply edited
  own_body = rw (same_path_refl (r ∷ nester), there) refl

  pub pointed_inside : IsSameInside root w pointed
  unfolding apply
  pointed_inside = record {
    bodies = λ q. other_body (q ++ root) (outside q);
    pages = λ q page. refl;
    kinds = λ x q led. same_kinds w (r ∷ nester) (SetPointer to) x;
  }

  pub pointed_cut : cut pointed nester slot ≡ cut w nester slot
  pointed_cut = same-cut w pointed nester slot pointed_inside

  still_near : (x : Path) → IsNear w root x → IsNear pointed root x
  still_near x (inl its) = inl its
  still_near x (inr its) = inr (
    its.0,
    subst (λ (o : Option Body). list_any (leads_to x) (body_pointers o) ≡ true)
        (sym (other_body (its.0 ++ root) (outside its.0))) its.1,
  )

  led_by : (x : Path) → list_any (leads_to x) (body_pointers (Some (Reference to))) ≡ true → leads_to x to ≡ true
  led_by x h = by (leads_to x to) h
    where
      by : (t : Bool) → (t || false) ≡ true → t ≡ true
      by true h = refl
      by false h = cc

  pub pointed_holding : IsHolding nester slot pointed
  pointed_holding = record {
    low = holding.low;
    holder = ap holder_of (other_body root (outside [])) ∙ holding.holder;
    above = same_decider w (r ∷ nester) to nester ∙ holding.above;
    porter = ap (holds is_native) (other_body (LAST_PORTER_SLOT ∷ nester)
        (same_path_ne (LAST_PORTER_SLOT ∷ nester) (r ∷ nester) (λ e. let same : LAST_PORTER_SLOT ≡ r = cc in
        let most = range.1 in omega (arith, same, most)))) ∙ holding.porter;
    scratch = λ k its. by_scratch k its (same_path (k ∷ nester) (r ∷ nester)) refl;
    near = λ k x its led. by_near k x its (same_path (k ∷ nester) (r ∷ nester)) refl led;
  }
    where
      by_scratch : (k : ℕ) → is_scratch nester (k ∷ nester) ≡ true → (t : Bool) → same_path (k ∷ nester) (r ∷ nester) ≡ t
          → only_reference (pointed.body (k ∷ nester)) ≡ true
      by_scratch k its true e = let at = same_path_eq (k ∷ nester) (r ∷ nester) e in
          subst (λ (y : Path). only_reference (pointed.body y) ≡ true) (sym at) (ap only_reference own_body)
      by_scratch k its false e = ap only_reference (other_body (k ∷ nester) e) ∙ holding.scratch k its

      by_near : (k : ℕ) (x : Path) → is_scratch nester (k ∷ nester) ≡ true → (t : Bool) → same_path (k ∷ nester) (r ∷ nester) ≡ t
          → list_any (leads_to x) (body_pointers (pointed.body (k ∷ nester))) ≡ true → IsNear pointed root x
      by_near k x its true e led =
          let at = same_path_eq (k ∷ nester) (r ∷ nester) e in
          let here : list_any (leads_to x) (body_pointers (pointed.body (r ∷ nester)))
          ≡ true = subst (λ (y : Path). list_any (leads_to x) (body_pointers (pointed.body y)) ≡ true) at led in
          still_near x (near x (led_by x (subst (λ (o : Option Body). list_any (leads_to x) (body_pointers o) ≡ true) own_body here)))
      by_near k x its false e led = still_near x (holding.near k x its
          (subst (λ (o : Option Body). list_any (leads_to x) (body_pointers o) ≡ true) (other_body (k ∷ nester) e) led))

  module _ (valid : IsValid w) (valid_after : IsValid pointed) (few : w.next ≤ depth) where
    pub pointed_leads : (z : Path) → is_led_to pointed root z ≡ is_led_to w root z
    unfolding apply
    pointed_leads z =
        leads_same nester slot w pointed holding.holder pointed_holding.holder valid valid_after few few
        (λ y off. other_body y (same_path_ne y (r ∷ nester) (λ e. let on : is_scratch nester y
        ≡ true = subst (λ (y : Path). is_scratch nester y ≡ true) (sym e) is in let both = sym on ∙ off in cc))) z
