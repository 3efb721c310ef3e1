-- The pin: a slot of the nester is looked at while the pin keeps what stands there.
use Rattle.std.proofs.Common.{◌≡◌, ℕ, suc, ◌≤◌, Bool, true, false, cond, ◌&&◌, ◌==◌, eqb, nat_le, List, [], ◌∷◌, ◌++◌, length, Option, Some, None, option_map}
use Rattle.std.proofs.Common.{Result, Ok, Err, refl, sym, ap, subst, arith, ◌∙◌, eqb-true, eq-eqb}
use Rattle.std.proofs.lemmas.Bool.{and_parts, leb-true}
use Rattle.fk_model.specs.declared.limits.TheConstants.{OWN_SPACE, LAST_USER_SLOT, FIRST_SCRATCH_SLOT, LAST_PORTER_SLOT}
use Rattle.fk_model.specs.declared.names.Kind.{Kind}
use Rattle.fk_model.specs.declared.names.Kind.TheVariants as kinds
use Rattle.fk_model.specs.declared.stage.Stage.TheVariants.{Point, Locate}
use Rattle.fk_model.specs.declared.statuses.status.TheConstants.{OK, NONE}
use Rattle.fk_model.specs.Places.{Path, strip, Ptr}
use Rattle.fk_model.specs.Places.Ptr.{Null, Dead, At, Out, Outside, Far}
use Rattle.fk_model.specs.Objects.{kind_of, reference_of}
use Rattle.fk_model.specs.Objects.Body.{Reference}
use Rattle.fk_model.specs.World.{World, Change, edited, apply, apply_all}
use Rattle.fk_model.specs.World.Change.{Alter}
use Rattle.fk_model.specs.World.Edit.{SetPointer}
use Rattle.fk_model.specs.Outcomes.Outcome.{Goes}
use Rattle.fk_model.specs.Outcomes.Said.{Answered}
use Rattle.fk_model.specs.Readers.{kind_at}
use Rattle.fk_model.specs.ObjectRows.{outermost, kind_number, target_of, pointer_in}
use Rattle.fk_model.specs.Moves.{call_row}
use Rattle.fk_model.specs.Valid.{kind_there}
use Rattle.fk_model.proofs.walks.PlaceLaws.{same_path_refl, same_path_ne, strip_some}
use Rattle.laws_jobs.specs.Machines.{no_words, porter}
use Rattle.laws_restore.specs.Sites.Orders.{Spot, Pin, Site, pin_of, PinShows, SpotShows, Shows, stays_in, is_ref_slot, with_spot, with_pin, is_port_in}
use Rattle.laws_restore.specs.Sites.Orders.Spot.{To, Unsure}
use Rattle.laws_restore.specs.Sites.Orders.Pin.{NoPin, Loose, Fast}
use Rattle.laws_restore.proofs.InSites.Others.{as_kind}
use Rattle.laws_restore.proofs.InSites.Standing.{unfrozen, ref_slot, ref_named, root_named}
use Rattle.laws_restore.proofs.InSites.Changes.{bare-pin, above_stays}
use Rattle.laws_jobs.proofs.Rows.{object-there, pin-row, points_as}
use Rattle.laws_restore.proofs.InSites.Located.{locate_here-row, located_here}

kind_five : (o : Option Kind) → (kind_number o == 5) ≡ true → o ≡ Some kinds.Port
kind_five (Some kinds.Port) h = refl
kind_five (Some kinds.Mutex) h = cc
kind_five (Some kinds.Cond) h = cc
kind_five (Some kinds.Mapping) h = cc
kind_five (Some kinds.Region) h = cc
kind_five (Some kinds.Portset) h = cc
kind_five (Some kinds.Space) h = cc
kind_five (Some kinds.Thread) h = cc
kind_five (Some kinds.Reference) h = cc
kind_five None h = cc

module _ (nester : Path) (slot : ℕ) where
  abbrev root : Path
  root = slot ∷ nester

  abbrev me : Path
  me = LAST_PORTER_SLOT ∷ nester

  module _ (g : Site) (w : World) (shows : Shows nester slot g w) where
    pub record IsPinned : Type 0 where
      pub to : Ptr
      pub is : w.body (pin_of root) ≡ Some (Reference to)

    pin_there : (p : Pin) → PinShows nester slot w p → (p ≡ NoPin → ⊥) → IsPinned
    pin_there NoPin shown there = absurd (there refl)
    pin_there Loose shown there = record { to = shown.0; is = shown.1 }
    pin_there (Fast i) shown there = record { to = At (i ∷ nester); is = shown.0 }

    pub pinned : (g.pin ≡ NoPin → ⊥) → IsPinned
    pinned there = pin_there g.pin shows.pin there

    -- where nothing in scratch leads out, the pin may be led anywhere
    pub inner_spot : (v : World) (k : ℕ) (o : Option Spot) (p : Pin) → stays_in o ≡ true → v.body (k ∷ nester) ≡ w.body (k ∷ nester)
        → SpotShows nester slot w g.pin k o → SpotShows nester slot v p k o
    inner_spot v k None p stays same h = same ∙ h
    inner_spot v k (Some (To Null)) p stays same h = (same ∙ h.0, tt)
    inner_spot v k (Some (To Dead)) p stays same h = (same ∙ h.0, tt)
    inner_spot v k (Some (To (At q))) p stays same h = (same ∙ h.0, tt)
    inner_spot v k (Some (To (Out i))) p stays same h = cc
    inner_spot v k (Some (To Outside)) p stays same h = absurd h.1
    inner_spot v k (Some (To Far)) p stays same h = absurd h.1
    inner_spot v k (Some Unsure) p stays same h = cc

    loosened : IsPinned → ((k : ℕ) → stays_in (g.spot k) ≡ true) → Shows nester slot (with_pin Loose g) w
    loosened pin stays = record {
      low = shows.low;
      holder = shows.holder;
      above = shows.above;
      porter = shows.porter;
      like = shows.like;
      pin = (pin.to, pin.is);
      spots = λ k is. inner_spot w k (g.spot k) Loose (stays k) refl (shows.spots k is);
    }

    led_anew : (to : Ptr) → IsPinned → ((k : ℕ) → stays_in (g.spot k) ≡ true)
        → Shows nester slot (with_pin Loose g) (apply (Alter (pin_of root) (SetPointer to)) w)
    unfolding apply edited
    led_anew to pin stays = record {
      low = shows.low;
      holder = rw (same_path_ne root (pin_of root) (λ e. omega (arith, ap length e))) shows.holder;
      above = above_stays nester slot g w shows (apply (Alter (pin_of root) (SetPointer to)) w)
          (λ a short. rw (same_path_ne a (pin_of root) (λ e. omega (arith, short, ap length e))) refl);
      porter = rw (same_path_ne me (pin_of root) (λ e. omega (arith, ap length e))) shows.porter;
      like = rw (bare-pin root w (option_map (edited (SetPointer to)))) shows.like;
      pin = (to, rw (same_path_refl (pin_of root), pin.is) refl);
      spots = λ k is. inner_spot (apply (Alter (pin_of root) (SetPointer to)) w) k (g.spot k) Loose (stays k)
          (rw (same_path_ne (k ∷ nester) (pin_of root) (λ e. omega (arith, ap length e))) refl) (shows.spots k is);
    }

    pub pins-row : (i : ℕ) → IsPinned → call_row w (porter nester no_words) None (Point slot FIRST_SCRATCH_SLOT OWN_SPACE i)
        ≡ points_as nester no_words w (pin_of root) (pointer_in w (porter nester no_words) nester i)
    pins-row i pin = pin-row nester no_words w slot FIRST_SCRATCH_SLOT i root pin.to (root_named nester slot g w shows no_words)
        (object-there nester no_words w reference_of root FIRST_SCRATCH_SLOT (Reference pin.to) pin.to refl pin.is refl)
        (unfrozen nester slot g w shows (FIRST_SCRATCH_SLOT ∷ []))

    pub pins : (i : ℕ) (changes : List Change) (status : ℕ) (words : List ℕ) → (g.pin ≡ NoPin → ⊥) → ((k : ℕ) → stays_in (g.spot k) ≡ true) →
        call_row w (porter nester no_words) None (Point slot FIRST_SCRATCH_SLOT OWN_SPACE i) ≡ Goes changes (Answered status words)
        → Shows nester slot (with_pin Loose g) (apply_all changes w)
    unfolding apply_all
    pins i changes status words there stays row = let pin = pinned there in by (pointer_in w (porter nester no_words) nester i) pin (sym (pins-row i pin) ∙ row)
      where
        by : (r : Result Ptr ℕ) → IsPinned → points_as nester no_words w (pin_of root) r ≡ Goes changes (Answered status words)
            → Shows nester slot (with_pin Loose g) (apply_all changes w)
        by (Err e) pin h = let same : changes ≡ [] = cc in rw same (loosened pin stays)
        by (Ok to) pin h = let same : changes ≡ Alter (pin_of root) (SetPointer to) ∷ [] = cc in rw same (led_anew to pin stays)

    -- ---- what locate tells

    abbrev pub IsThePort : ℕ → Ptr → Type 0
    IsThePort i to = (to ≡ At (i ∷ nester)) × (kind_at w (At (i ∷ nester)) ≡ Some kinds.Port)

    way_port : (i : ℕ) (x : Path) (q : Path) → i ≤ LAST_USER_SLOT → x ≡ q ++ nester
        → is_port_in i ((outermost q ∷ cond (nat_le (length q) 1) 0 1 ∷ []) ++ kind_number (kind_at w (At x)) ∷ []) ≡ true → IsThePort i (At x)
    way_port i x [] low is h =
        let parts = and_parts (OWN_SPACE == i && true) (kind_number (kind_at w (At x)) == 5) h in
        let first = and_parts (OWN_SPACE == i) true parts.0 in
        let same = eqb-true OWN_SPACE i first.0 in absurd (omega (arith, same, low))
    way_port i x (k ∷ []) low is h =
        let parts = and_parts (k == i && true) (kind_number (kind_at w (At x)) == 5) h in
        let first = and_parts (k == i) true parts.0 in
        let same = eqb-true k i first.0 in
        let at : x ≡ i ∷ nester = is ∙ ap (λ (k : ℕ). k ∷ nester) same in
        (ap At at, sym (ap (λ (x : Path). kind_at w (At x)) at) ∙ kind_five (kind_at w (At x)) parts.1)
    way_port i x (k ∷ j ∷ q) low is h = by (outermost (j ∷ q) == i) (nat_le (suc (suc (length q))) 1) refl h
      where
        by : (b t : Bool) → nat_le (suc (suc (length q))) 1 ≡ t → ((b && (cond t 0 1 == 0)) && (kind_number (kind_at w (At x)) == 5)) ≡ true
            → IsThePort i (At x)
        by b true e h = let most = leb-true (suc (suc (length q))) 1 e in absurd (omega (arith, most))
        by true false e h = cc
        by false false e h = cc

    pub located : (i : ℕ) (to : Ptr) (changes : List Change) (status : ℕ) (words : List ℕ) → i ≤ LAST_USER_SLOT
        → located_here nester no_words w (target_of to) ≡ Goes changes (Answered status words) → is_port_in i words ≡ true → IsThePort i to
    located i (At x) changes status words low h port = by (strip nester x) refl h
      where
        by : (o : Option Path) → strip nester x ≡ o → (elim (option_map (λ (q : Path). outermost q ∷ cond (nat_le (length q) 1) 0 1 ∷ []) o) [
          | None ↦ Goes [] (Answered NONE [])
          | Some way ↦ Goes [] (Answered OK (way ++ kind_number (kind_at w (At x)) ∷ []))
        ]) ≡ Goes changes (Answered status words) → IsThePort i (At x)
        by None e h = let same : words ≡ [] = cc in let off = rw same at port in cc
        by (Some q) e h = let same : words ≡ (outermost q ∷ cond (nat_le (length q) 1) 0 1 ∷ []) ++ kind_number (kind_at w (At x)) ∷ [] = cc in
            way_port i x q low (strip_some nester x q e) (subst (λ (words : List ℕ). is_port_in i words ≡ true) same port)
    located i Null changes status words low h port = let same : words ≡ [] = cc in let off = rw same at port in cc
    located i Dead changes status words low h port = let same : words ≡ [] = cc in let off = rw same at port in cc
    located i (Out j) changes status words low h port = let same : words ≡ [] = cc in let off = rw same at port in cc
    located i Outside changes status words low h port = let same : words ≡ [] = cc in let off = rw same at port in cc
    located i Far changes status words low h port = let same : words ≡ [] = cc in let off = rw same at port in cc

    pub still_here : (to : Ptr) (changes : List Change) (status : ℕ) (words : List ℕ)
        → located_here nester no_words w (target_of to) ≡ Goes changes (Answered status words) → changes ≡ []
    still_here Null changes status words h = cc
    still_here Dead changes status words h = cc
    still_here (At x) changes status words h = by (option_map (λ (q : Path). outermost q ∷ cond (nat_le (length q) 1) 0 1 ∷ []) (strip nester x)) h
      where
        by : (o : Option (List ℕ)) → (elim o [
          | None ↦ Goes [] (Answered NONE [])
          | Some way ↦ Goes [] (Answered OK (way ++ kind_number (kind_at w (At x)) ∷ []))
        ]) ≡ Goes changes (Answered status words) → changes ≡ []
        by None h = cc
        by (Some way) h = cc
    still_here (Out j) changes status words h = cc
    still_here Outside changes status words h = cc
    still_here Far changes status words h = cc

    pub checks : (r i : ℕ) (changes : List Change) (status : ℕ) (words : List ℕ) → is_ref_slot r ≡ true → g.spot r ≡ Some Unsure
        → ((k : ℕ) → (k ≡ r → ⊥) → stays_in (g.spot k) ≡ true) → i ≤ LAST_USER_SLOT →
        call_row w (porter nester no_words) None (Locate r OWN_SPACE) ≡ Goes changes (Answered status words) → is_port_in i words ≡ true →
        Shows nester slot (with_pin (Fast i) (with_spot r (Some (To (Out i))) g)) (apply_all changes w)
    unfolding apply_all kind_there
    checks r i changes status words is unsure stays low row port =
        let ref : SpotShows nester slot w g.pin r (Some Unsure) = subst (λ (o : Option Spot). SpotShows nester slot w g.pin r o) unsure
        (shows.spots r (ref_slot nester slot g w shows r is)) in
        let comes = sym (locate_here-row nester no_words w r ref.0
        (object-there nester no_words w reference_of nester r (Reference ref.0) ref.0 (ref_named nester slot g w shows r is) ref.1 refl)) ∙ row in
        let its = located i ref.0 changes status words low comes port in
        let none = still_here ref.0 changes status words comes in
        let scratch_to : w.body (r ∷ nester) ≡ Some (Reference (At (i ∷ nester))) = ref.1 ∙ ap (λ (p : Ptr). Some (Reference p)) its.0 in
        let pin_to : w.body (pin_of root) ≡ Some (Reference (At (i ∷ nester))) = ref.2 ∙ ap (λ (p : Ptr). Some (Reference p)) its.0 in
        let kind : option_map kind_of (w.body (i ∷ nester)) ≡ Some kinds.Port = sym (as_kind (w.body (i ∷ nester))) ∙ its.1 in
        rw none (record {
          low = shows.low;
          holder = shows.holder;
          above = shows.above;
          porter = shows.porter;
          like = shows.like;
          pin = (pin_to, kind);
          spots = λ k is. by k (eqb k r) refl scratch_to (shows.spots k is);
        })
      where
        by : (k : ℕ) (t : Bool) → eqb k r ≡ t → w.body (r ∷ nester) ≡ Some (Reference (At (i ∷ nester))) → SpotShows nester slot w g.pin k (g.spot k)
            → SpotShows nester slot w (Fast i) k (cond t (Some (To (Out i))) (g.spot k))
        by k true e there h = let same = eqb-true k r e in rw same (there, refl)
        by k false e there h = inner_spot w k (g.spot k) (Fast i) (stays k (λ same. apart same)) refl h
          where
            apart : k ≡ r → ⊥
            apart same = let on : eqb k r ≡ true = rw same (eq-eqb r r refl) in cc
