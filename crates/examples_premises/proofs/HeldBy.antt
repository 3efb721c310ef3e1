-- What is tested of each object that a world lists: that in the slots of scratch there are references alone, which lead near.
use Rattle.std.proofs.Common.{◌≡◌, ℕ, ◌≤◌, Bool, true, false, not, ◌||◌, ◌&&◌, is_some, List, [], ◌∷◌, ◌++◌, Option, None, Some, inl, inr, refl, sym, ◌∙◌}
use Rattle.std.specs.List.{list_all, list_any}
use Rattle.std.proofs.lemmas.Bool.{and_parts}
use Rattle.fk_model.specs.declared.limits.TheConstants.{LAST_USER_SLOT, LAST_PORTER_SLOT}
use Rattle.fk_model.specs.Places.{Path, Ptr, is_within, strip, leads_to}
use Rattle.fk_model.specs.Places.Ptr.{Null, Dead, At, Out, Outside, Far}
use Rattle.fk_model.specs.Objects.{Body, holds}
use Rattle.fk_model.specs.World.{World}
use Rattle.fk_model.specs.Holds.{holder_of, decider}
use Rattle.fk_model.specs.Freezing.{body_pointers}
use Rattle.fk_model.specs.StateRows.{is_native}
use Rattle.fk_model.specs.ObjectRows.{is_scratch}
use Rattle.fk_model.proofs.walks.PlaceLaws.{same_path_eq, strip_some}
use Rattle.laws_moves.specs.Frozen.Holding.{IsNear, IsHolding, is_reference, only_reference}
use Rattle.examples_moves.specs.Worked.{body_in}
use Rattle.examples_premises.proofs.Listed.{found}

-- it leads into the subtree, or where the object at q inside leads
abbrev leads_near : World → Path → Path → Ptr → Bool
leads_near w root q (At y) = is_within root y || list_any (leads_to y) (body_pointers (w.body (q ++ root)))
leads_near w root q other = true

abbrev pub is_scratch_well : World → Path → ℕ → Path → Path → Body → Bool
is_scratch_well w nester slot q x b = not (is_scratch nester x) || (is_reference b && list_all (leads_near w (slot ∷ nester) q) (body_pointers (Some b)))

module _ (w : World) (nester : Path) (slot : ℕ) (q : Path) where
  abbrev root : Path
  root = slot ∷ nester

  near_place : (x : Path) (o : Option Path) → strip root x ≡ o → (b : Bool) → list_any (leads_to x) (body_pointers (w.body (q ++ root))) ≡ b →
      (is_some o || b) ≡ true → IsNear w root x
  near_place x (Some z) e b f h = inl (z, strip_some root x z e)
  near_place x None e true f h = inr (q, f)
  near_place x None e false f h = cc

  near_one : (x : Path) (p : Ptr) → leads_near w root q p ≡ true → leads_to x p ≡ true → IsNear w root x
  near_one x (At y) h g = let same = same_path_eq y x g in
      near_place x (strip root x) refl (list_any (leads_to x) (body_pointers (w.body (q ++ root)))) refl (rw same at h)
  near_one x Null h g = cc
  near_one x Dead h g = cc
  near_one x (Out k) h g = cc
  near_one x Outside h g = cc
  near_one x Far h g = cc

  near_all : (x : Path) (ps : List Ptr) → list_all (leads_near w root q) ps ≡ true → list_any (leads_to x) ps ≡ true → IsNear w root x
  near_all x [] h g = cc
  near_all x (p ∷ ps) h g = let both = and_parts (leads_near w root q p) (list_all (leads_near w root q) ps) h in
      by both.0 (leads_to x p) refl g (near_all x ps both.1)
    where
      by : leads_near w root q p ≡ true → (b : Bool) → leads_to x p ≡ b → (b || list_any (leads_to x) ps) ≡ true →
          (list_any (leads_to x) ps ≡ true → IsNear w root x) → IsNear w root x
      by first true e g later = near_one x p first e
      by first false e g later = later g

  pub holding : (es : List (Path × Body)) → ((x : Path) → w.body x ≡ body_in es x) → list_all (λ e. is_scratch_well w nester slot q e.0 e.1) es ≡ true →
      slot ≤ LAST_USER_SLOT → holder_of (w.body root) ≡ Some (At (LAST_PORTER_SLOT ∷ nester)) → decider w nester ≡ None →
      holds is_native (w.body (LAST_PORTER_SLOT ∷ nester)) ≡ true → IsHolding nester slot w
  holding es bodies all low holder above porter = record {
    low = low;
    holder = holder;
    above = above;
    porter = porter;
    scratch = λ k in_scratch. reference k in_scratch (w.body (k ∷ nester)) refl;
    near = λ k x in_scratch leads. close k x in_scratch (w.body (k ∷ nester)) refl leads;
  }
    where
      well : (k : ℕ) (b : Body) → is_scratch nester (k ∷ nester) ≡ true → w.body (k ∷ nester) ≡ Some b →
          (is_reference b ≡ true) × (list_all (leads_near w root q) (body_pointers (Some b)) ≡ true)
      well k b in_scratch e = and_parts (is_reference b) (list_all (leads_near w root q) (body_pointers (Some b)))
          (rw in_scratch at (found (is_scratch_well w nester slot q) es all (k ∷ nester) b (sym (bodies (k ∷ nester)) ∙ e)))

      reference : (k : ℕ) → is_scratch nester (k ∷ nester) ≡ true → (o : Option Body) → w.body (k ∷ nester) ≡ o → only_reference o ≡ true
      reference k in_scratch None e = refl
      reference k in_scratch (Some b) e = (well k b in_scratch e).0

      close : (k : ℕ) (x : Path) → is_scratch nester (k ∷ nester) ≡ true → (o : Option Body) → w.body (k ∷ nester) ≡ o →
          list_any (leads_to x) (body_pointers o) ≡ true → IsNear w root x
      close k x in_scratch None e leads = cc
      close k x in_scratch (Some b) e leads = near_all x (body_pointers (Some b)) (well k b in_scratch e).1 leads
