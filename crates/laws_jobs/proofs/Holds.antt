-- A hold that is done puts the porter to work, and a release ends that.
use Rattle.std.proofs.Common.{◌≡◌, ℕ, zero, ◌≤◌, ◌<◌, Bool, true, false, not, ◌&&◌, nat_le, [], ◌∷◌, ◌++◌, length, Option, Some, None, option_map, is_some, Ok}
use Rattle.std.proofs.Common.{refl, sym, ap, subst, arith, length-append, ◌∙◌, ◌⊎◌, inl, inr, if◌then◌else◌}
use Rattle.std.specs.List.{list_any}
use Rattle.std.proofs.lemmas.Bool.{and_parts, leb-true, le-leb}
use Rattle.fk_model.specs.declared.limits.TheConstants.{OWN_SPACE, LAST_USER_SLOT, FIRST_SCRATCH_SLOT, LAST_SCRATCH_SLOT, LAST_PORTER_SLOT}
use Rattle.fk_model.specs.declared.names.Kind.TheVariants as kinds
use Rattle.fk_model.specs.declared.stage.Stage.TheVariants.{SpaceHold, SpaceRelease}
use Rattle.fk_model.specs.declared.statuses.status.TheConstants as status
use Rattle.fk_model.specs.Places.{Path, same_path, strip, is_within, Ptr, leads_to}
use Rattle.fk_model.specs.Places.Ptr.{At}
use Rattle.fk_model.specs.Objects.{Body, kind_of, space_of, holds}
use Rattle.fk_model.specs.Objects.Body.{Mutex, Cond, Mapping, Region, Port, Portset, Space, Thread_of, Reference}
use Rattle.fk_model.specs.World.{World, edited, apply, apply_all}
use Rattle.fk_model.specs.World.Change.{Alter}
use Rattle.fk_model.specs.World.Edit.{SetHolder}
use Rattle.fk_model.specs.Searches.{beneath, depth}
use Rattle.fk_model.specs.Holds.{holder_of, decider, is_frozen_for}
use Rattle.fk_model.specs.Outcomes.{Outcome, ◌>>=◌, refuse, when, done}
use Rattle.fk_model.specs.Outcomes.Outcome.{Waits, Goes}
use Rattle.fk_model.specs.Outcomes.Said.{Answered}
use Rattle.fk_model.specs.Readers.{seen_as, object_in, space_argument}
use Rattle.fk_model.specs.SpaceRows.{has_porter, is_held_by_other, space_hold, space_release}
use Rattle.fk_model.specs.StateRows.{is_native}
use Rattle.fk_model.specs.ObjectRows.{is_scratch}
use Rattle.fk_model.specs.Freezing.{body_pointers}
use Rattle.fk_model.specs.Moves.{closed, with_pick, call_row, GoesAllowed}
use Rattle.fk_model.specs.Runs.{after}
use Rattle.fk_model.specs.Valid.{IsValid, kind_there}
use Rattle.fk_model.specs.Cut.{ports_of, cut_by, cut, seen_by}
use Rattle.fk_model.specs.Closed.{open_place}
use Rattle.fk_model.proofs.walks.PlaceLaws.{same_path_eq, same_path_refl, same_path_ne, strip_some, leads_to_at}
use Rattle.laws_moves.specs.Frozen.Holding.{IsHolding}
use Rattle.laws_moves.proofs.InFrozen.FrozenCut.{port_by_kind}
use Rattle.laws_moves.proofs.InFrozen.Holding.{holder_none, none_above, decider_none}
use Rattle.laws_jobs.specs.Machines.{no_words, porter, IsReadyAt}
use Rattle.laws_jobs.specs.Leads.{held_world}
use Rattle.laws_jobs.specs.Holds.{hold, IsSpaceAt, Held, Unheld, HoldComesTo, released_world, ReleaseComesTo}
use Rattle.laws_jobs.proofs.Goings.{Called, called, call_is_its_row}
use Rattle.laws_jobs.proofs.Rows.{own-place, object-there}
use Rattle.laws_jobs.proofs.Own.{same_kinds}
use Rattle.laws_jobs.proofs.Held.{hold_keeps_open_place}

-- ---- what a hold comes to, whatever stands in the slot

abbrev hold_as : Path → Path → Bool → Bool → Bool → Outcome
hold_as root me true within free = Goes [] (Answered status.HELD [])
hold_as root me false true free = Goes [] (Answered status.DENIED [])
hold_as root me false false true = Goes (Alter root (SetHolder (Some (At me))) ∷ []) (Answered status.OK [])
hold_as root me false false false = Waits

abbrev hold_at : Path → Path → Bool → Bool → Bool → Option Body → Outcome
hold_at root me held within free (Some (Space birth holder)) = hold_as root me held within free
hold_at root me held within free (Some b) = Goes [] (Answered status.WRONGKIND [])
hold_at root me held within free None = Goes [] (Answered status.BADHANDLE [])

module _ (nester : Path) (slot : ℕ) (low : slot ≤ LAST_USER_SLOT) (w : World) where
  abbrev root : Path
  root = slot ∷ nester

  abbrev me : Path
  me = LAST_PORTER_SLOT ∷ nester

  abbrev frozen : Bool
  frozen = is_frozen_for w me nester

  abbrev within : Bool
  within = is_within root nester

  abbrev may : Bool
  may = not (is_held_by_other w me root) && not (list_any (has_porter w) (beneath w root))

  hold-row : call_row w (porter nester no_words) None (SpaceHold OWN_SPACE slot) ≡ hold_at root me frozen within may (w.body root)
  unfolding call_row space_hold object_in space_argument
  hold-row = rw (le-leb slot LAST_PORTER_SLOT (omega (arith, low))) (by (w.body root))
    where
      by_tests : (h i f : Bool) → closed (porter nester no_words) (with_pick false None (refuse status.HELD h >>= (λ u. refuse status.DENIED i >>= (λ u. when f
          (done (porter nester no_words) (Alter root (SetHolder (Some (At me))) ∷ []) []))))) ≡ hold_as root me h i f
      by_tests true i f = refl
      by_tests false true f = refl
      by_tests false false true = refl
      by_tests false false false = refl

      by : (o : Option Body) → closed (porter nester no_words) (with_pick false None (seen_as space_of o >>= (λ holder. refuse status.HELD frozen >>= (λ u.
          refuse status.DENIED within >>= (λ u. when may (done (porter nester no_words) (Alter root (SetHolder (Some (At me))) ∷ []) []))))))
          ≡ hold_at root me frozen within may o
      by None = refl
      by (Some (Space birth holder)) = by_tests frozen within may
      by (Some (Mutex locked)) = refl
      by (Some Cond) = refl
      by (Some (Mapping m)) = refl
      by (Some (Region r)) = refl
      by (Some (Port set served)) = refl
      by (Some Portset) = refl
      by (Some (Thread_of t)) = refl
      by (Some (Reference to)) = refl

  -- ---- the world after it

  beneath_apart : (p : Path) (k : ℕ) → same_path (k ∷ (p ++ root)) root ≡ false
  beneath_apart p k = same_path_ne (k ∷ (p ++ root)) root (λ e. omega (arith, ap length e, length-append p root))

  above_apart : (p a : Path) → nester ≡ p ++ a → same_path a root ≡ false
  above_apart p a e = same_path_ne a root (λ g. omega (arith, ap length g, ap length e, length-append p a))

  slot_apart : (k : ℕ) → LAST_USER_SLOT < k → same_path (k ∷ nester) root ≡ false
  slot_apart k far = same_path_ne (k ∷ nester) root (λ e. let same : k ≡ slot = cc in omega (arith, same, far, low))

  high : (k : ℕ) → is_scratch nester (k ∷ nester) ≡ true → LAST_USER_SLOT < k
  high k h =
      let both = and_parts (same_path nester nester && nat_le FIRST_SCRATCH_SLOT k) (nat_le k LAST_SCRATCH_SLOT) h in
      let first = and_parts (same_path nester nester) (nat_le FIRST_SCRATCH_SLOT k) both.0 in
      let least = leb-true FIRST_SCRATCH_SLOT k first.1 in
      omega (arith, least)

  module _ (native : holds is_native (w.body me) ≡ true) (free : decider w nester ≡ None)
      (empty : (y : Path) → is_scratch nester y ≡ true → w.body y ≡ None) where
    held-holding : (birth : ℕ) (old : Option Ptr) → w.body root ≡ Some (Space birth old) → IsHolding nester slot (held_world nester slot w)
    unfolding apply edited
    held-holding birth old there = record {
      low = low;
      holder = rw (same_path_refl root, there) refl;
      above = decider_none (held_world nester slot w) nester (λ p a e. rw (above_apart p a e)
          (holder_none w a (none_above w p a (subst (λ (y : Path). decider w y ≡ None) e free))));
      porter = rw (slot_apart LAST_PORTER_SLOT (omega arith)) native;
      scratch = λ k its. rw (slot_apart k (high k its), empty (k ∷ nester) its) refl;
      near = λ k x its led. absurd (no_led k x its led);
    }
      where
        no_led : (k : ℕ) (x : Path) → is_scratch nester (k ∷ nester) ≡ true →
            list_any (leads_to x) (body_pointers ((held_world nester slot w).body (k ∷ nester))) ≡ true → ⊥
        no_led k x its led =
            let off : list_any (leads_to x) (body_pointers ((held_world nester slot w).body (k ∷ nester)))
            ≡ false = rw (slot_apart k (high k its), empty (k ∷ nester) its) refl in
            let both = sym led ∙ off in cc

    held-ports : ports_of (held_world nester slot w) nester slot ≡ ports_of w nester slot
    unfolding kind_there
    held-ports = λ i j. by j i
      where
        by : (j : ℕ) → ports_of (held_world nester slot w) nester slot j ≡ ports_of w nester slot j
        by j = rw (
          port_by_kind ((held_world nester slot w).body (j ∷ nester)),
          port_by_kind (w.body (j ∷ nester)),
          same_kinds w root (SetHolder (Some (At me))) (j ∷ nester),
        ) refl

    held-cut : (birth : ℕ) (old : Option Ptr) → w.body root ≡ Some (Space birth old) → cut (held_world nester slot w) nester slot ≡ cut w nester slot
    unfolding cut apply edited seen_by
    held-cut birth old there =
        ap (λ (ports : ℕ → Bool). cut_by ports (held_world nester slot w) nester slot) held-ports
        ∙ (λ i. record { body = λ q. body_same q i; page = λ q page. w.page (q ++ root) page; next = zero })
      where
        body_same : (q : Path) → (cut_by (ports_of w nester slot) (held_world nester slot w) nester slot).body q
            ≡ (cut_by (ports_of w nester slot) w nester slot).body q
        body_same [] = rw (same_path_refl root, there) refl
        body_same (k ∷ q) = rw (beneath_apart q k) refl

    -- a space that the porter holds already stays as it is
    same_held : (birth : ℕ) → w.body root ≡ Some (Space birth (Some (At me))) → held_world nester slot w ≡ w
    unfolding apply edited
    same_held birth there = λ i. record { body = λ y. at y i; page = λ y page. w.page y page; next = w.next }
      where
        by : (y : Path) (t : Bool) → same_path y root ≡ t →
            (if t then option_map (edited (SetHolder (Some (At me)))) (w.body y) else w.body y) ≡ w.body y
        by y true e = let here = same_path_eq y root e in rw (here, there) refl
        by y false e = refl

        at : (y : Path) → (held_world nester slot w).body y ≡ w.body y
        at y = by y (same_path y root) refl

    module _ (valid : IsValid w) (valid_after : IsValid (held_world nester slot w)) (few : w.next ≤ depth) where
      held-place : (birth : ℕ) (old : Option Ptr) → w.body root ≡ Some (Space birth old) → is_held_by_other w me root ≡ false →
          open_place (held_world nester slot w) nester slot ≡ open_place w nester slot
      held-place birth None there mine = hold_keeps_open_place nester slot birth w there empty valid valid_after few
      held-place birth (Some p) there mine =
          let its : not (leads_to me p) ≡ false = (let whole = mine in rw there at whole) in
          let at = leads_to_at me p (on (leads_to me p) its) in
          ap (λ (v : World). open_place v nester slot) (same_held birth (there ∙ ap (λ (p : Ptr). Some (Space birth (Some p))) at))
        where
          on : (b : Bool) → not b ≡ false → b ≡ true
          on true h = refl
          on false h = cc

unheld_space : (w : World) (x : Path) (b : Body) → w.body x ≡ Some b → (kind_of b ≡ kinds.Space → ⊥) → IsSpaceAt w x → ⊥
unfolding kind_there
unheld_space w x b there other space = other (let its : Some (kind_of b) ≡ Some kinds.Space = (let whole = space in rw there at whole) in cc)

nothing_there : (w : World) (x : Path) → w.body x ≡ None → IsSpaceAt w x → ⊥
unfolding kind_there
nothing_there w x none space = (let its : None ≡ Some kinds.Space = (let whole = space in rw none at whole) in cc)

space_there : (w : World) (x : Path) (birth : ℕ) (old : Option Ptr) → w.body x ≡ Some (Space birth old) → IsSpaceAt w x
unfolding kind_there
space_there w x birth old there = rw there refl

module _ (nester : Path) (slot : ℕ) (w : World) (low : slot ≤ LAST_USER_SLOT) (empty : (y : Path) → is_scratch nester y ≡ true
    → w.body y ≡ None) (valid : IsValid w)
    (valid_after : IsValid (after w (hold nester slot))) (few : w.next ≤ depth) (ready : IsReadyAt w (hold nester slot)) where
  abbrev top : Path
  top = slot ∷ nester

  abbrev mover : Path
  mover = LAST_PORTER_SLOT ∷ nester

  its : Called nester w (SpaceHold OWN_SPACE slot) no_words
  its = called nester w (SpaceHold OWN_SPACE slot) no_words ready

  unfrozen : is_frozen_for w mover nester ≡ false
  unfrozen = rw its.free refl

  not_within : is_within top nester ≡ false
  not_within = apart (strip top nester) refl
    where
      apart : (o : Option Path) → strip top nester ≡ o → is_some o ≡ false
      apart None e = refl
      apart (Some q) e = let at = strip_some top nester q e in absurd (omega (arith, ap length at, length-append q top))

  refused : (refusal : ℕ) → (refusal ≡ status.OK → ⊥) → (IsSpaceAt w top → ⊥)
      → hold_at top mover (frozen nester slot low w) (within nester slot low w) (may nester slot low w) (w.body top) ≡ Goes [] (Answered refusal []) →
      Held nester slot w ⊎ Unheld nester slot w
  unfolding apply_all
  refused refusal other none is =
      let goes = call_is_its_row nester w (SpaceHold OWN_SPACE slot) no_words [] (Answered refusal []) (hold-row nester slot low w ∙ is) ready in
      inr (record { none = none; status = refusal; refused = other; said = goes.1; world = goes.0 })

  mine : (t : Bool) → may nester slot low w ≡ t → t ≡ true → is_held_by_other w mover top ≡ false
  mine t e on = by (is_held_by_other w mover top) refl (e ∙ on)
    where
      by : (b : Bool) → is_held_by_other w mover top ≡ b → (not b && not (list_any (has_porter w) (beneath w top))) ≡ true → b ≡ false
      by false e h = refl
      by true e h = cc

  a_space : (birth : ℕ) (old : Option Ptr) → w.body top ≡ Some (Space birth old) → Held nester slot w ⊎ Unheld nester slot w
  unfolding apply_all
  a_space birth old there = by (may nester slot low w) refl
    where
      row : (t : Bool) → may nester slot low w ≡ t → call_row w (porter nester no_words) None (SpaceHold OWN_SPACE slot) ≡ hold_as top mover false false t
      row t e = hold-row nester slot low w ∙ (λ i. hold_at top mover (unfrozen i) (not_within i) (e i) (there i))

      by : (t : Bool) → may nester slot low w ≡ t → Held nester slot w ⊎ Unheld nester slot w
      by false e = absurd (subst (GoesAllowed w mover) (row false e) its.allowed)
      by true e =
          let goes = call_is_its_row nester w (SpaceHold OWN_SPACE slot) no_words (Alter top (SetHolder (Some (At mover))) ∷ []) (Answered status.OK [])
          (row true e) ready in
          let world : after w (hold nester slot) ≡ held_world nester slot w = goes.0 in
          inl (record {
            space = space_there w top birth old there;
            said = goes.1;
            world = world;
            holding = held-holding nester slot low w its.native its.free empty birth old there;
            cut = held-cut nester slot low w its.native its.free empty birth old there;
            place = held-place nester slot low w its.native its.free empty valid (subst IsValid world valid_after) few birth old there (mine true e refl);
          })

  by_body : (o : Option Body) → w.body top ≡ o → Held nester slot w ⊎ Unheld nester slot w
  by_body None e = refused status.BADHANDLE (λ h. cc) (nothing_there w top e) (rw e refl)
  by_body (Some (Space birth old)) e = a_space birth old e
  by_body (Some (Mutex locked)) e = refused status.WRONGKIND (λ h. cc) (unheld_space w top (Mutex locked) e (λ h. cc)) (rw e refl)
  by_body (Some Cond) e = refused status.WRONGKIND (λ h. cc) (unheld_space w top Cond e (λ h. cc)) (rw e refl)
  by_body (Some (Mapping m)) e = refused status.WRONGKIND (λ h. cc) (unheld_space w top (Mapping m) e (λ h. cc)) (rw e refl)
  by_body (Some (Region r)) e = refused status.WRONGKIND (λ h. cc) (unheld_space w top (Region r) e (λ h. cc)) (rw e refl)
  by_body (Some (Port set served)) e = refused status.WRONGKIND (λ h. cc) (unheld_space w top (Port set served) e (λ h. cc)) (rw e refl)
  by_body (Some Portset) e = refused status.WRONGKIND (λ h. cc) (unheld_space w top Portset e (λ h. cc)) (rw e refl)
  by_body (Some (Thread_of t)) e = refused status.WRONGKIND (λ h. cc) (unheld_space w top (Thread_of t) e (λ h. cc)) (rw e refl)
  by_body (Some (Reference to)) e = refused status.WRONGKIND (λ h. cc) (unheld_space w top (Reference to) e (λ h. cc)) (rw e refl)

pub hold_comes_to : HoldComesTo
hold_comes_to nester slot w low empty valid valid_after few ready = by_body nester slot w low empty valid valid_after few ready (w.body (slot ∷ nester)) refl

-- ---- the release

module _ (nester : Path) (slot : ℕ) (w : World) (holding : IsHolding nester slot w) where
  abbrev here : Path
  here = slot ∷ nester

  abbrev caller : Path
  caller = LAST_PORTER_SLOT ∷ nester

  record Space_here : Type 0 where
    birth : ℕ
    there : w.body here ≡ Some (Space birth (Some (At caller)))

  space_here : Space_here
  space_here = by (w.body here) refl holding.holder
    where
      by : (o : Option Body) → w.body here ≡ o → holder_of o ≡ Some (At caller) → Space_here
      by (Some (Space birth old)) e h = record { birth = birth; there = e ∙ ap (λ (holder : Option Ptr). Some (Space birth holder)) h }
      by (Some (Mutex locked)) e h = cc
      by (Some Cond) e h = cc
      by (Some (Mapping m)) e h = cc
      by (Some (Region r)) e h = cc
      by (Some (Port set served)) e h = cc
      by (Some Portset) e h = cc
      by (Some (Thread_of t)) e h = cc
      by (Some (Reference to)) e h = cc
      by None e h = cc

  pub release-row : call_row w (porter nester no_words) None (SpaceRelease OWN_SPACE slot) ≡ Goes (Alter here (SetHolder None) ∷ []) (Answered status.OK [])
  unfolding call_row space_release
  release-row =
      let low = holding.low in
      let object : object_in w (porter nester no_words) space_of nester slot ≡ Ok (Some (At caller)) =
      object-there nester no_words w space_of nester slot (Space space_here.birth (Some (At caller))) (Some (At caller))
      (le-leb slot LAST_PORTER_SLOT (omega (arith, low))) space_here.there refl in
      rw (own-place nester no_words w, object, holding.above, same_path_refl caller) refl

  pub unheld_root : holder_of ((released_world nester slot w).body here) ≡ None
  unfolding apply edited
  unheld_root = rw (same_path_refl here, space_here.there) refl

  ports_same : ports_of (released_world nester slot w) nester slot ≡ ports_of w nester slot
  unfolding kind_there
  ports_same = λ i j. by j i
    where
      by : (j : ℕ) → ports_of (released_world nester slot w) nester slot j ≡ ports_of w nester slot j
      by j = rw (
        port_by_kind ((released_world nester slot w).body (j ∷ nester)),
        port_by_kind (w.body (j ∷ nester)),
        same_kinds w here (SetHolder None) (j ∷ nester),
      ) refl

  pub same_cut : cut (released_world nester slot w) nester slot ≡ cut w nester slot
  unfolding cut apply edited seen_by
  same_cut =
      ap (λ (ports : ℕ → Bool). cut_by ports (released_world nester slot w) nester slot) ports_same
      ∙ (λ i. record { body = λ q. body_same q i; page = λ q page. w.page (q ++ here) page; next = zero })
    where
      body_same : (q : Path) → (cut_by (ports_of w nester slot) (released_world nester slot w) nester slot).body q
          ≡ (cut_by (ports_of w nester slot) w nester slot).body q
      body_same [] = rw (same_path_refl here, space_here.there) refl
      body_same (k ∷ q) = rw (same_path_ne (k ∷ (q ++ here)) here (λ e. omega (arith, ap length e, length-append q here))) refl

pub release_comes_to : ReleaseComesTo
unfolding apply_all
release_comes_to nester slot w holding ready =
    let goes = call_is_its_row nester w (SpaceRelease OWN_SPACE slot) no_words (Alter (slot ∷ nester) (SetHolder None) ∷ []) (Answered status.OK [])
    (release-row nester slot w holding) ready in
    record { said = goes.1; world = goes.0; unheld = unheld_root nester slot w holding; cut = same_cut nester slot w holding }
