-- Nothing leads to a reference, so one that is destroyed takes nothing with it.
use Rattle.std.proofs.Common.{◌≡◌, ℕ, zero, suc, ◌≤◌, ◌<◌, Bool, true, false, cond, IsSome, is_some, List, [], ◌∷◌, ◌++◌, length, Option, Some, None}
use Rattle.std.proofs.Common.{option_map, Ok, refl, sym, ap, subst, arith, length-append, ◌∙◌}
use Rattle.std.specs.List.{list_any}
use Rattle.fk_model.specs.declared.limits.TheConstants.{OWN_SPACE, SLOTS, LAST_USER_SLOT, FIRST_SCRATCH_SLOT, LAST_PORTER_SLOT}
use Rattle.fk_model.specs.declared.names.Kind.TheVariants as kinds
use Rattle.fk_model.specs.declared.stage.Stage.TheVariants.{Destroy}
use Rattle.fk_model.specs.declared.statuses.status.TheConstants.{OK}
use Rattle.fk_model.specs.Places.{Path, same_path, strip, is_within, Ptr, leads_to}
use Rattle.fk_model.specs.Objects.{Body, kind_of, holds}
use Rattle.fk_model.specs.Objects.Body.{Reference}
use Rattle.fk_model.specs.World.{World, apply, apply_all}
use Rattle.fk_model.specs.World.Change.{Kill}
use Rattle.fk_model.specs.Searches.{lowest, depth, first_resident, leaf_by, leaf}
use Rattle.fk_model.specs.StateRows.{is_native}
use Rattle.fk_model.specs.Holds.{holder_of, is_frozen_for}
use Rattle.fk_model.specs.Freezing.{body_pointers}
use Rattle.fk_model.specs.Outcomes.Outcome.{Goes}
use Rattle.fk_model.specs.Outcomes.Said.{Answered}
use Rattle.fk_model.specs.Readers.{anything, object_in, space_argument}
use Rattle.fk_model.specs.ObjectRows.{destroy}
use Rattle.fk_model.specs.Moves.{call_row}
use Rattle.fk_model.specs.Valid.{IsValid, kind_there}
use Rattle.laws_moves.proofs.InMachine.Frame.{apply-body}
use Rattle.fk_model.proofs.walks.PlaceLaws.{same_path_eq, same_path_refl, same_path_ne, strip_some}
use Rattle.laws_jobs.specs.Machines.{no_words, porter}
use Rattle.laws_jobs.proofs.Dropped.{there_live, unswept}
use Rattle.laws_restore.specs.Sites.Orders.{Pin, Site, pin_of, bare, PinShows, Shows, stays_in, is_ref_slot}
use Rattle.laws_restore.specs.Sites.Orders.Pin.{NoPin, Fast}
use Rattle.laws_restore.specs.Sites.Orders.Order.{Drops, DropsPin}
use Rattle.laws_restore.proofs.InSites.Plain.{Plain}
use Rattle.laws_restore.proofs.InSites.Nearby.{inside_near, scratch_near}
use Rattle.laws_restore.proofs.InSites.Standing.{ref_slot, unfrozen, ref_named, ref_there, ref_unfrozen, root_named}
use Rattle.laws_restore.proofs.InSites.Changes.{above_stays, scratch-shows, range}
use Rattle.laws_restore.proofs.InSites.Pinned.{IsPinned, inner_spot}
use Rattle.laws_jobs.proofs.Rows.{own-place, object-there}

pub leaf_alone : (n : ℕ) (w : World) (y : Path) → first_resident w y ≡ None → leaf_by n w y ≡ y
unfolding leaf_by
leaf_alone zero w y h = refl
leaf_alone (suc n) w y h = rw h refl

pub lowest_off : {A : Type 0} (n : ℕ) (f : ℕ → Option A) → ((k : ℕ) → f k ≡ None) → lowest n f ≡ None
unfolding lowest
lowest_off zero f h = refl
lowest_off (suc n) f h = rw (lowest_off n f h, h n) refl

-- ---- a reference is destroyed

module _ (w : World) (valid : IsValid w) (x : Path) (to : Ptr) (there : w.body x ≡ Some (Reference to)) where
  kind_is : kind_there w x ≡ Some kinds.Reference
  unfolding kind_there
  kind_is = rw there refl

  pub bodies_stay : (y : Path) → same_path y x ≡ false → (apply (Kill x) w).body y ≡ w.body y
  bodies_stay y apart = apply-body (Kill x) w y (rw (apart, unswept (kind_there w) x kind_is y (w.body y) (valid.consistent.good y)) refl)

  pub gone : (apply (Kill x) w).body x ≡ None
  unfolding apply
  gone = rw (same_path_refl x) refl

  no_page : (page : ℕ) → w.page x page ≡ None
  no_page page = by (w.page x page) refl
    where
      by : (o : Option (List ℕ)) → w.page x page ≡ o → o ≡ None
      by None e = refl
      by (Some words) e =
          let live : IsSome (w.page x page) = rw e refl in
          let place = valid.paged x page live in
          let space = place.space in
          let both = sym kind_is ∙ space in
          cc

  pub pages_stay : (y : Path) (page : ℕ) → (apply (Kill x) w).page y page ≡ w.page y page
  unfolding apply
  pages_stay y page = by (same_path y x) refl
    where
      by : (t : Bool) → same_path y x ≡ t → cond t None (w.page y page) ≡ w.page y page
      by true e = let same = same_path_eq y x e in rw same (sym (no_page page))
      by false e = refl

  pub not_there : (y q : Path) → list_any (leads_to y) (body_pointers (w.body q)) ≡ true → same_path y x ≡ false
  not_there y q led = same_path_ne y x (λ e.
      let here : list_any (leads_to x) (body_pointers (w.body q))
      ≡ true = subst (λ (y : Path). list_any (leads_to y) (body_pointers (w.body q)) ≡ true) e led in
      there_live (kind_there w) x kind_is q (w.body q) (valid.consistent.good q) here)

  nobody : (k : ℕ) → w.body (k ∷ x) ≡ None
  nobody k = by (w.body (k ∷ x)) refl
    where
      by : (o : Option Body) → w.body (k ∷ x) ≡ o → o ≡ None
      by None e = refl
      by (Some b) e =
          let live : IsSome (w.body (k ∷ x)) = rw e refl in
          let space = valid.consistent.parents k x live in
          let both = sym kind_is ∙ space in
          cc

  its_leaf : leaf w x ≡ x
  unfolding leaf
  its_leaf = leaf_alone depth w x (lowest_off SLOTS (λ k. option_map (λ b. k) (w.body (k ∷ x))) (λ k. rw (nobody k) refl))

module _ (nester : Path) (w : World) (valid : IsValid w) where
  abbrev me : Path
  me = LAST_PORTER_SLOT ∷ nester

  pub destroy-row : (s x : ℕ) (space : Path) (to : Ptr) → w.body (x ∷ space) ≡ Some (Reference to) → space_argument w (porter nester no_words) s ≡ Ok space
      → object_in w (porter nester no_words) anything space x ≡ Ok (Reference to) →
      is_frozen_for w me (x ∷ space) ≡ false → is_within (x ∷ space) nester ≡ false →
      call_row w (porter nester no_words) None (Destroy s x) ≡ Goes (Kill (x ∷ space) ∷ []) (Answered OK [])
  unfolding call_row destroy
  destroy-row s x space to there h object free apart = rw
      (h, object, free, apart, its_leaf w valid (x ∷ space) to there, free, there, same_path_refl (x ∷ space)) refl

-- ---- as orders

module _ (nester : Path) (slot : ℕ) (g : Site) (w : World) (shows : Shows nester slot g w) (valid : IsValid w) where
  abbrev root : Path
  root = slot ∷ nester

  pub above_off : (k : ℕ) (s : Path) → length nester ≤ length s → is_within (k ∷ s) nester ≡ false
  above_off k s long = by (strip (k ∷ s) nester) refl
    where
      by : (o : Option Path) → strip (k ∷ s) nester ≡ o → is_some o ≡ false
      by None e = refl
      by (Some q) e = let at = strip_some (k ∷ s) nester q e in absurd (omega (arith, long, ap length at, length-append q (k ∷ s)))

  outside : (r : ℕ) (q : Path) → LAST_USER_SLOT < r → same_path (q ++ root) (r ∷ nester) ≡ false
  outside r q far = same_path_ne (q ++ root) (r ∷ nester) (λ e. by q e)
    where
      by : (q : Path) → q ++ root ≡ r ∷ nester → ⊥
      by [] e = let low = shows.low in let slots : slot ≡ r = cc in omega (arith, slots, far, low)
      by (k ∷ q) e = omega (arith, ap length e, length-append q root)

  kind_stays : (x : Path) (to : Ptr) (y : Path) → w.body x ≡ Some (Reference to) → same_path y x ≡ false → kind_there (apply (Kill x) w) y ≡ kind_there w y
  unfolding kind_there
  kind_stays x to y there apart = ap (option_map kind_of) (bodies_stay w valid x to there y apart)

  pub drops-plain : (r : ℕ) → is_ref_slot r ≡ true → IsSome (g.spot r) → Plain nester slot g w shows valid.consistent (Drops r)
  unfolding apply_all
  drops-plain r is ready =
      let ref = ref_there nester slot g w shows r is ready in
      let its = range nester slot g w shows r is in
      let x : Path = r ∷ nester in
      record {
        changes = Kill x ∷ [];
        near = (scratch_near nester slot r (ref_slot nester slot g w shows r is), tt);
        row = destroy-row nester w valid OWN_SPACE r nester ref.to ref.is (own-place nester no_words w)
            (object-there nester no_words w anything nester r (Reference ref.to) (Reference ref.to) (ref_named nester slot g w shows r is) ref.is refl)
            (ref_unfrozen nester slot g w shows r ref.to ref.is) (above_off r nester (omega arith));
        shown = scratch-shows nester slot g w shows (apply (Kill x) w) r None its.far its.most
            (record {
              bodies = λ q. bodies_stay w valid x ref.to ref.is (q ++ root) (outside r q its.far);
              pages = λ q page. pages_stay w valid x ref.to ref.is (q ++ root) page;
              kinds = λ y q led. kind_stays x ref.to y ref.is (not_there w valid x ref.to ref.is y (q ++ root) led);
            })
            (λ y apart. bodies_stay w valid x ref.to ref.is y apart)
            (λ i pinned. kind_stays x ref.to (i ∷ nester) ref.is (port_apart r ref.to i pinned ref.is))
            (gone w valid x ref.to ref.is);
      }
    where
      port_apart : (r : ℕ) (to : Ptr) (i : ℕ) → g.pin ≡ Fast i → w.body (r ∷ nester) ≡ Some (Reference to) → same_path (i ∷ nester) (r ∷ nester) ≡ false
      port_apart r to i pinned is =
          let shown = subst (λ (p : Pin). PinShows nester slot w p) pinned shows.pin in
          not_there w valid (r ∷ nester) to is (i ∷ nester) (pin_of root) (rw shown.0 (rw (same_path_refl (i ∷ nester)) refl))

  bare_gone : (to : Ptr) → w.body (pin_of root) ≡ Some (Reference to) → bare root (apply (Kill (pin_of root)) w) ≡ bare root w
  unfolding apply
  bare_gone to is = λ i. record {
    body = λ y. by y (same_path y (pin_of root)) refl i;
    page = λ y page. pages_stay w valid (pin_of root) to is y page i;
    next = next_stays i;
  }
    where
      by : (y : Path) (t : Bool) → same_path y (pin_of root) ≡ t → cond t None ((apply (Kill (pin_of root)) w).body y) ≡ cond t None (w.body y)
      by y true e = refl
      by y false e = bodies_stay w valid (pin_of root) to is y e

      next_stays : (apply (Kill (pin_of root)) w).next ≡ w.next
      next_stays = refl

  pub drops_pin-plain : IsPinned nester slot g w shows → ((k : ℕ) → stays_in (g.spot k) ≡ true) → Plain nester slot g w shows valid.consistent DropsPin
  unfolding apply_all apply
  drops_pin-plain pin stays =
      let v : World = apply (Kill (pin_of root)) w in
      let same : (y : Path) → same_path y (pin_of root) ≡ false → v.body y ≡ w.body y = λ y apart. bodies_stay w valid (pin_of root) pin.to pin.is y apart in
      record {
        changes = Kill (pin_of root) ∷ [];
        near = (inside_near nester slot (FIRST_SCRATCH_SLOT ∷ []), tt);
        row = destroy-row nester w valid slot FIRST_SCRATCH_SLOT root pin.to pin.is (root_named nester slot g w shows no_words)
            (object-there nester no_words w anything root FIRST_SCRATCH_SLOT (Reference pin.to) (Reference pin.to) refl pin.is refl)
            (unfrozen nester slot g w shows (FIRST_SCRATCH_SLOT ∷ [])) (above_off FIRST_SCRATCH_SLOT root (omega arith));
        shown = record {
          low = shows.low;
          holder = ap holder_of (same root (same_path_ne root (pin_of root) (λ e. omega (arith, ap length e)))) ∙ shows.holder;
          above = above_stays nester slot g w shows v (λ a short. same a (same_path_ne a (pin_of root) (λ e. omega (arith, short, ap length e))));
          porter = ap (holds is_native) (same (LAST_PORTER_SLOT ∷ nester)
              (same_path_ne (LAST_PORTER_SLOT ∷ nester) (pin_of root) (λ e. omega (arith, ap length e)))) ∙ shows.porter;
          like = rw (bare_gone pin.to pin.is) shows.like;
          pin = gone w valid (pin_of root) pin.to pin.is;
          spots = λ k is. inner_spot nester slot g w shows v k (g.spot k) NoPin (stays k)
              (same (k ∷ nester) (same_path_ne (k ∷ nester) (pin_of root) (λ e. omega (arith, ap length e)))) (shows.spots k is);
        };
      }
