-- What a restorer's changes make of a world that shows a site.
use Rattle.std.proofs.Common.{◌≡◌, ℕ, suc, ◌≤◌, ◌<◌, Bool, true, false, cond, eqb, IsSome, is_some, List, [], ◌∷◌, ◌++◌, length, Option, Some, None, option_map}
use Rattle.std.proofs.Common.{refl, sym, ap, subst, arith, length-append, ◌∙◌, eqb-true, eq-eqb}
use Rattle.fk_model.specs.declared.limits.TheConstants.{LAST_USER_SLOT, FIRST_SCRATCH_SLOT, LAST_SCRATCH_SLOT, LAST_PORTER_SLOT}
use Rattle.fk_model.specs.Places.{Path, same_path, Ptr}
use Rattle.fk_model.specs.Places.Ptr.{Null}
use Rattle.fk_model.specs.Objects.{Body, kind_of, holds}
use Rattle.fk_model.specs.Objects.Body.{Space, Reference}
use Rattle.fk_model.specs.World.{World, Edit, edited, at_path, apply}
use Rattle.fk_model.specs.World.Change.{Alter, Make, MakeSpace, PutPage}
use Rattle.fk_model.specs.World.Edit.{SetPointer}
use Rattle.fk_model.specs.Holds.{holder_of, decider}
use Rattle.fk_model.specs.StateRows.{is_native}
use Rattle.fk_model.specs.Valid.{IsConsistent, kind_there}
use Rattle.fk_model.specs.Cut.{seen_by}
use Rattle.fk_model.proofs.walks.PlaceLaws.{same_path_refl, same_path_eq, same_path_ne}
use Rattle.laws_subtrees.specs.Cut.Likeness.{seeing, HasLikeness, IsPlainBody, IsLikeness}
use Rattle.laws_subtrees.specs.Cut.LikeChanges.{seen_edit, IsSeenEdit}
use Rattle.laws_subtrees.proofs.InCut.likeness.Changes.{kind_kept, alter-like, make-like, make_space-like, page-like}
use Rattle.laws_moves.specs.Frozen.Frozen.{IsSameInside}
use Rattle.laws_moves.proofs.InFrozen.Frozen.{there_live}
use Rattle.laws_moves.proofs.InFrozen.Holding.{holder_none, none_above, decider_none}
use Rattle.laws_restore.specs.Sites.Orders.{Spot, Pin, Site, pin_of, eye, bare, PinShows, SpotShows, Shows, is_ref_slot, with_spot, with_built}
use Rattle.laws_restore.specs.Sites.Orders.Spot.{To, Unsure}
use Rattle.laws_restore.specs.Sites.Orders.Pin.{NoPin, Loose, Fast}
use Rattle.laws_restore.proofs.InSites.Others.{as_kind, same-like}
use Rattle.laws_restore.proofs.InSites.Standing.{ref_range}

-- what is done elsewhere is done the same without the pin
module _ (root : Path) (w : World) where
  abbrev pin : Path
  pin = pin_of root

  bare-body : (x : Path) (f : Option Body → Option Body) → same_path x pin ≡ false → (y : Path) →
      cond (same_path y pin) None (cond (same_path y x) (f (w.body y)) (w.body y))
      ≡ cond (same_path y x) (f (cond (same_path y pin) None (w.body y))) (cond (same_path y pin) None (w.body y))
  bare-body x f apart y = by (same_path y pin) (same_path y x) refl refl
    where
      by : (t u : Bool) → same_path y pin ≡ t → same_path y x ≡ u
          → cond t None (cond u (f (w.body y)) (w.body y)) ≡ cond u (f (cond t None (w.body y))) (cond t None (w.body y))
      by true true e h =
          let at_pin = same_path_eq y pin e in
          let at_x = same_path_eq y x h in
          let same : x ≡ pin = sym at_x ∙ at_pin in
          let on : same_path x pin ≡ true = rw same (same_path_refl pin) in
          cc
      by true false e h = refl
      by false u e h = refl

  pub bare-at : (x : Path) (f : Option Body → Option Body) → same_path x pin ≡ false → bare root (at_path x f w) ≡ at_path x f (bare root w)
  bare-at x f apart = λ i. record { body = λ y. bare-body x f apart y i; page = w.page; next = w.next }

  pub bare-pin : (f : Option Body → Option Body) → bare root (at_path pin f w) ≡ bare root w
  bare-pin f = λ i. record { body = λ y. by (same_path y pin) (f (w.body y)) (w.body y) i; page = w.page; next = w.next }
    where
      by : (t : Bool) (a o : Option Body) → cond t None (cond t a o) ≡ cond t None o
      by true a o = refl
      by false a o = refl

module _ (nester : Path) (slot : ℕ) (g : Site) (w : World) (shows : Shows nester slot g w) where
  abbrev root : Path
  root = slot ∷ nester

  abbrev me : Path
  me = LAST_PORTER_SLOT ∷ nester

  abbrev see : Ptr → Ptr
  see = eye nester slot

  -- ---- what lies above stays

  abbrev Above : World → Type 0
  Above v = (y : Path) → length y ≤ suc (length nester) → v.body y ≡ w.body y

  pin_stays : (v : World) (p : Pin) → Above v → v.body (pin_of root) ≡ w.body (pin_of root) → PinShows nester slot w p → PinShows nester slot v p
  unfolding kind_there
  pin_stays v NoPin above same shown = same ∙ shown
  pin_stays v Loose above same shown = (shown.0, same ∙ shown.1)
  pin_stays v (Fast i) above same shown = (same ∙ shown.0, ap (option_map kind_of) (above (i ∷ nester) (omega arith)) ∙ shown.1)

  spot_stays : (v : World) (p : Pin) (k : ℕ) (o : Option Spot) → v.body (k ∷ nester) ≡ w.body (k ∷ nester) → v.body (pin_of root) ≡ w.body (pin_of root)
      → SpotShows nester slot w p k o → SpotShows nester slot v p k o
  spot_stays v p k None is same h = is ∙ h
  spot_stays v p k (Some (To to)) is same h = (is ∙ h.0, h.1)
  spot_stays v p k (Some Unsure) is same h = (h.0, is ∙ h.1, same ∙ h.2)

  pub above_stays : (v : World) → ((a : Path) → length a ≤ length nester → v.body a ≡ w.body a) → decider v nester ≡ None
  above_stays v same = decider_none v nester (λ p a e.
      let short : length a ≤ length nester = omega (arith, ap length e, length-append p a) in
      ap holder_of (same a short) ∙ holder_none w a (none_above w p a (subst (λ (y : Path). decider w y ≡ None) e shows.above)))

  inner-shows : (v built : World) → Above v → v.body (pin_of root) ≡ w.body (pin_of root) → IsLikeness root see built (bare root v)
      → Shows nester slot (with_built built g) v
  inner-shows v built above same like = record {
    low = shows.low;
    holder = ap holder_of (above root (omega arith)) ∙ shows.holder;
    above = above_stays v (λ a short. above a (omega (arith, short)));
    porter = ap (holds is_native) (above me (omega arith)) ∙ shows.porter;
    like = like;
    pin = pin_stays v g.pin above same shows.pin;
    spots = λ k is. spot_stays v g.pin k (g.spot k) (above (k ∷ nester) (omega arith)) same (shows.spots k is);
  }

  -- ---- a change inside

  short_apart : (x : ℕ) (q y : Path) → length y ≤ suc (length nester) → same_path y (x ∷ (q ++ root)) ≡ false
  short_apart x q y short = same_path_ne y (x ∷ (q ++ root)) (λ e. omega (arith, short, ap length e, length-append q root))

  pin_apart : (x : ℕ) (q : Path) → x ≤ LAST_USER_SLOT → same_path (pin_of root) (x ∷ (q ++ root)) ≡ false
  pin_apart x q low = same_path_ne (pin_of root) (x ∷ (q ++ root)) (λ e. let slots : FIRST_SCRATCH_SLOT ≡ x = cc in omega (arith, slots, low))

  apart_pin : (x : ℕ) (q : Path) → x ≤ LAST_USER_SLOT → same_path (x ∷ (q ++ root)) (pin_of root) ≡ false
  apart_pin x q low = same_path_ne (x ∷ (q ++ root)) (pin_of root) (λ e. let slots : x ≡ FIRST_SCRATCH_SLOT = cc in omega (arith, slots, low))

  pub alters : (out : Bool) (x : ℕ) (q : Path) (edit : Edit) → x ≤ LAST_USER_SLOT → IsSeenEdit root see (bare root w) out (x ∷ (q ++ root)) edit →
      Shows nester slot (with_built (apply (Alter (x ∷ q) (seen_edit see out edit)) g.built) g) (apply (Alter (x ∷ (q ++ root)) edit) w)
  unfolding apply
  alters out x q edit low h =
      inner-shows (apply (Alter (x ∷ (q ++ root)) edit) w) (apply (Alter (x ∷ q) (seen_edit see out edit)) g.built)
      (λ y short. rw (short_apart x q y short) refl) (rw (pin_apart x q low) refl)
      (rw (bare-at root w (x ∷ (q ++ root)) (option_map (edited edit)) (apart_pin x q low)) (alter-like shows.like out x q edit h))

  pub makes : (x : ℕ) (q : Path) (body : Body) → x ≤ LAST_USER_SLOT → IsPlainBody see (HasLikeness root see (bare root w)) body →
      Shows nester slot (with_built (apply (Make (x ∷ q) (seen_by (seeing see) body)) g.built) g) (apply (Make (x ∷ (q ++ root)) body) w)
  unfolding apply
  makes x q body low h =
      inner-shows (apply (Make (x ∷ (q ++ root)) body) w) (apply (Make (x ∷ q) (seen_by (seeing see) body)) g.built)
      (λ y short. rw (short_apart x q y short) refl) (rw (pin_apart x q low) refl)
      (rw (bare-at root w (x ∷ (q ++ root)) (λ there. Some body) (apart_pin x q low)) (make-like shows.like x q body h))

  pub makes_space : (x : ℕ) (q : Path) → x ≤ LAST_USER_SLOT →
      Shows nester slot (with_built (apply (MakeSpace (x ∷ q) None) g.built) g) (apply (MakeSpace (x ∷ (q ++ root)) None) w)
  unfolding apply
  makes_space x q low =
      inner-shows (apply (MakeSpace (x ∷ (q ++ root)) None) w) (apply (MakeSpace (x ∷ q) None) g.built) (λ y short. rw (short_apart x q y short) refl)
      (rw (pin_apart x q low) refl)
      (subst (λ (bodies : Path → Option Body). IsLikeness root see (apply (MakeSpace (x ∷ q) None) g.built)
      (record { body = bodies; page = w.page; next = (apply (MakeSpace (x ∷ (q ++ root)) None) w).next }))
      (sym (ap (λ (v : World). v.body) (bare-at root w (x ∷ (q ++ root)) (λ there. Some (Space w.next None)) (apart_pin x q low)))) like)
    where
      like : IsLikeness root see (apply (MakeSpace (x ∷ q) None) g.built) (apply (MakeSpace (x ∷ (q ++ root)) None) (bare root w))
      like = make_space-like shows.like x q None tt

  pub gives : (q : Path) (page : ℕ) (words : List ℕ)
      → Shows nester slot (with_built (apply (PutPage q page words) g.built) g) (apply (PutPage (q ++ root) page words) w)
  unfolding apply
  gives q page words =
      inner-shows (apply (PutPage (q ++ root) page words) w) (apply (PutPage q page words) g.built) (λ y short. refl) refl
      (page-like shows.like q page (Some words))

  -- ---- a change of a scratch reference

  outside_apart : (r : ℕ) (q : Path) → LAST_USER_SLOT < r → same_path (q ++ root) (r ∷ nester) ≡ false
  outside_apart r q far = same_path_ne (q ++ root) (r ∷ nester) (λ e. by q e)
    where
      by : (q : Path) → q ++ root ≡ r ∷ nester → ⊥
      by [] e = let low = shows.low in let slots : slot ≡ r = cc in omega (arith, slots, far, low)
      by (k ∷ q) e = omega (arith, ap length e, length-append q root)

  -- the world after a change at a scratch slot, the others as they were
  pub scratch-shows : (v : World) (r : ℕ) (spot : Option Spot) → LAST_USER_SLOT < r → r ≤ LAST_SCRATCH_SLOT → IsSameInside root w v
      → ((y : Path) → same_path y (r ∷ nester) ≡ false → v.body y ≡ w.body y) →
      ((i : ℕ) → g.pin ≡ Fast i → kind_there v (i ∷ nester) ≡ kind_there w (i ∷ nester)) → SpotShows nester slot v g.pin r spot
      → Shows nester slot (with_spot r spot g) v
  scratch-shows v r spot far most same others port now = record {
    low = shows.low;
    holder = ap holder_of (same.bodies []) ∙ shows.holder;
    above = above_stays v (λ a short. others a (same_path_ne a (r ∷ nester) (λ e. omega (arith, short, ap length e))));
    porter = ap (holds is_native) (others me (same_path_ne me (r ∷ nester) (λ e. let slots : LAST_PORTER_SLOT ≡ r = cc in omega (arith, slots, most))))
        ∙ shows.porter;
    like = same-like root see g.built w v same shows.like;
    pin = by_pin g.pin port shows.pin;
    spots = λ k is. by_spot k (eqb k r) refl (shows.spots k is);
  }
    where
      pin_same : v.body (pin_of root) ≡ w.body (pin_of root)
      pin_same = same.bodies (FIRST_SCRATCH_SLOT ∷ [])

      by_pin : (p : Pin) → ((i : ℕ) → p ≡ Fast i → kind_there v (i ∷ nester) ≡ kind_there w (i ∷ nester)) → PinShows nester slot w p → PinShows nester slot v p
      by_pin NoPin port shown = pin_same ∙ shown
      by_pin Loose port shown = (shown.0, pin_same ∙ shown.1)
      by_pin (Fast i) port shown = (pin_same ∙ shown.0, port i refl ∙ shown.1)

      by_spot : (k : ℕ) (t : Bool) → eqb k r ≡ t → SpotShows nester slot w g.pin k (g.spot k) → SpotShows nester slot v g.pin k (cond t spot (g.spot k))
      by_spot k true e h = let is = eqb-true k r e in rw is now
      by_spot k false e h = spot_stays v g.pin k (g.spot k) (others (k ∷ nester) (same_path_ne (k ∷ nester) (r ∷ nester) (λ same. apart same))) pin_same h
        where
          apart : k ∷ nester ≡ r ∷ nester → ⊥
          apart same = let slots : k ≡ r = cc in let on = eq-eqb k r slots in cc

  pub alter_kind : (x y : Path) (edit : Edit) → kind_there (apply (Alter x edit) w) y ≡ kind_there w y
  unfolding kind_there apply
  alter_kind x y edit = sym (as_kind _) ∙ kind_kept edit (same_path y x) (w.body y) ∙ as_kind (w.body y)

  pub record IsRefSlot (r : ℕ) : Type 0 where
    pub far : LAST_USER_SLOT < r
    pub most : r ≤ LAST_SCRATCH_SLOT

  pub range : (r : ℕ) → is_ref_slot r ≡ true → IsRefSlot r
  range r is = let both = ref_range nester slot g w shows r is in let first = both.0 in record { far = omega (arith, first); most = both.1 }

  -- a scratch reference is led somewhere
  pub led_there : (r : ℕ) (old to : Ptr) → w.body (r ∷ nester) ≡ Some (Reference old)
      → (apply (Alter (r ∷ nester) (SetPointer to)) w).body (r ∷ nester) ≡ Some (Reference to)
  unfolding apply edited
  led_there r old to there = rw (same_path_refl (r ∷ nester), there) refl

  pub leads : (r : ℕ) (to : Ptr) (spot : Option Spot) → is_ref_slot r ≡ true
      → SpotShows nester slot (apply (Alter (r ∷ nester) (SetPointer to)) w) g.pin r spot →
      Shows nester slot (with_spot r spot g) (apply (Alter (r ∷ nester) (SetPointer to)) w)
  unfolding apply
  leads r to spot is now =
      let its = range r is in
      scratch-shows (apply (Alter (r ∷ nester) (SetPointer to)) w) r spot its.far its.most
      (record { bodies = λ q. rw (outside_apart r q its.far) refl; pages = λ q page. refl; kinds = λ x q led. alter_kind (r ∷ nester) x (SetPointer to) })
      (λ y apart. rw apart refl) (λ i pinned. alter_kind (r ∷ nester) (i ∷ nester) (SetPointer to)) now

  pub pin_kept : (r : ℕ) (to : Ptr) → (apply (Alter (r ∷ nester) (SetPointer to)) w).body (pin_of root) ≡ w.body (pin_of root)
  unfolding apply
  pin_kept r to = rw (same_path_ne (pin_of root) (r ∷ nester) (λ e. omega (arith, ap length e))) refl

  -- a new one, where there was none
  pub readies : (r : ℕ) → IsConsistent w → is_ref_slot r ≡ true → g.spot r ≡ None → w.body (r ∷ nester) ≡ None →
      Shows nester slot (with_spot r (Some (To Null)) g) (apply (Make (r ∷ nester) (Reference Null)) w)
  unfolding apply kind_there
  readies r valid is empty none =
      let its = range r is in
      scratch-shows (apply (Make (r ∷ nester) (Reference Null)) w) r (Some (To Null)) its.far its.most
      (record {
        bodies = λ q. rw (outside_apart r q its.far) refl;
        pages = λ q page. refl;
        kinds = λ x q led. rw (vacant x (there_live (kind_there w) x (q ++ root) (w.body (q ++ root)) (valid.good (q ++ root)) led)) refl;
      })
      (λ y apart. rw apart refl) (λ i pinned. rw (vacant (i ∷ nester) (port i pinned)) refl) (rw (same_path_refl (r ∷ nester)) (refl, tt))
    where
      vacant : (x : Path) → IsSome (kind_there w x) → same_path x (r ∷ nester) ≡ false
      vacant x live = same_path_ne x (r ∷ nester) (λ e. let gone : kind_there w x ≡ None = rw (e, none) refl in
          let off : is_some (kind_there w x) ≡ false = ap is_some gone in cc)

      port : (i : ℕ) → g.pin ≡ Fast i → IsSome (kind_there w (i ∷ nester))
      port i pinned = let shown = subst (λ (p : Pin). PinShows nester slot w p) pinned shows.pin in rw shown.1 refl
