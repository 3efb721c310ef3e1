-- A region that goes again leaves a scratch reference that leads to what was destroyed.
use Rattle.std.proofs.Common.{◌≡◌, ℕ, suc, ◌≤◌, Bool, true, false, cond, eqb, IsSome, IfSome, [], ◌∷◌, ◌++◌, length, Option, Some, None, option_map, Ok, refl}
use Rattle.std.proofs.Common.{sym, ap, subst, arith, length-append, eqb-true, eq-eqb, ◌∙◌}
use Rattle.fk_model.specs.declared.limits.TheConstants.{SLOTS, FIRST_SCRATCH_SLOT, LAST_PORTER_SLOT}
use Rattle.fk_model.specs.declared.names.Kind.TheVariants as kinds
use Rattle.fk_model.specs.declared.stage.Stage.TheVariants.{Destroy}
use Rattle.fk_model.specs.declared.statuses.status.TheConstants.{OK}
use Rattle.fk_model.specs.Places.{Path, same_path, Ptr}
use Rattle.fk_model.specs.Places.Ptr.{Null, Dead, At, Out, Outside, Far}
use Rattle.fk_model.specs.Objects.{Extent, Body, and_then, holds}
use Rattle.fk_model.specs.Objects.Body.{Mutex, Cond, Mapping, Region, Port, Portset, Space, Thread_of, Reference}
use Rattle.fk_model.specs.World.{World, death_sweep, through, apply, apply_all}
use Rattle.fk_model.specs.World.Change.{Kill}
use Rattle.fk_model.specs.Searches.{leaf, depth}
use Rattle.fk_model.specs.Holds.{holder_of, is_frozen_for}
use Rattle.fk_model.specs.StateRows.{is_native}
use Rattle.fk_model.specs.Outcomes.Outcome.{Goes}
use Rattle.fk_model.specs.Outcomes.Said.{Answered}
use Rattle.fk_model.specs.Readers.{anything, object_in}
use Rattle.fk_model.specs.ObjectRows.{destroy}
use Rattle.fk_model.specs.Moves.{call_row}
use Rattle.fk_model.specs.Valid.{IsValid, kind_there}
use Rattle.fk_model.specs.Cut.{seen_by, unheld}
use Rattle.fk_model.proofs.walks.PlaceLaws.{same_path_refl, same_path_eq, same_path_ne, same_path_cancel, strip-append}
use Rattle.laws_subtrees.specs.Cut.Likeness.{seeing, IsLikeness}
use Rattle.laws_moves.proofs.InFrozen.Holding.{holder_none, none_above, decider_none}
use Rattle.fk_model.specs.Holds.{decider}
use Rattle.laws_jobs.specs.Machines.{no_words, porter}
use Rattle.laws_jobs.specs.Calls.{fresh}
use Rattle.laws_restore.specs.Sites.Orders.{Spot, Pin, Site, pin_of, eye, bare, PinShows, SpotShows, Shows, alone, leads_nowhere, with_spot, with_built}
use Rattle.laws_restore.specs.Sites.Orders.{MayDeaden}
use Rattle.laws_restore.specs.Sites.Orders.Spot.{To, Unsure}
use Rattle.laws_restore.specs.Sites.Orders.Pin.{NoPin}
use Rattle.laws_restore.specs.Sites.Orders.Order.{Deadens}
use Rattle.laws_restore.proofs.InSites.Nearby.{inside_near}
use Rattle.laws_restore.proofs.InSites.Standing.{unfrozen, ref_led, big, root_there, root_named}
use Rattle.laws_restore.proofs.InSites.Plain.{Plain}
use Rattle.laws_restore.proofs.InSites.Dropped.{leaf_alone, lowest_off, above_off}
use Rattle.laws_jobs.proofs.Rows.{object-there}

swept_holder : (x a : Path) (o : Option Body) → holder_of o ≡ None → holder_of (option_map (through (death_sweep x) a) o) ≡ None
swept_holder x a (Some (Space birth None)) h = refl
swept_holder x a (Some (Space birth (Some p))) h = cc
swept_holder x a (Some (Mutex locked)) h = refl
swept_holder x a (Some b) h = refl
swept_holder x a None h = refl

swept_native : (x a : Path) (o : Option Body) → holds is_native o ≡ true → holds is_native (option_map (through (death_sweep x) a) o) ≡ true
swept_native x a (Some (Thread_of t)) h = h
swept_native x a (Some (Mutex locked)) h = cc
swept_native x a (Some b) h = cc
swept_native x a None h = cc

-- what is seen as a region is one
record IsRegion (b : Body) : Type 0 where
  pub extent : Extent
  pub is : b ≡ Region extent

module _ (nester : Path) (slot : ℕ) (g : Site) (w : World) (shows : Shows nester slot g w) (valid : IsValid w) (r : ℕ) (may : MayDeaden g r) where
  abbrev root : Path
  root = slot ∷ nester

  abbrev me : Path
  me = LAST_PORTER_SLOT ∷ nester

  abbrev x : Path
  x = 0 ∷ root

  abbrev with_region : World
  with_region = apply (fresh (0 ∷ []) kinds.Region) alone

  record IsThere : Type 0 where
    pub extent : Extent
    pub is : w.body x ≡ Some (Region extent)

  region_seen : (b : Body) → Some (Region (record { first = 0; count = 1; write = false; keeper = Null })) ≡ Some (seen_by (seeing (eye nester slot)) b)
      → IsRegion b
  unfolding seen_by
  region_seen (Region extent) h = record { extent = extent; is = refl }
  region_seen (Mutex locked) h = cc
  region_seen Cond h = cc
  region_seen (Mapping m) h = cc
  region_seen (Port set served) h = cc
  region_seen Portset h = cc
  region_seen (Space birth holder) h = cc
  region_seen (Thread_of t) h = cc
  region_seen (Reference to) h = cc

  built_there : g.built.body (0 ∷ []) ≡ Some (Region (record { first = 0; count = 1; write = false; keeper = Null }))
  unfolding apply
  built_there = rw (may.region, same_path_refl (0 ∷ [])) refl

  there : IsThere
  there =
      let found = big nester slot g w shows 0 [] (Region (record { first = 0; count = 1; write = false; keeper = Null })) built_there in
      let region = region_seen found.body (ap Some found.seen) in
      record { extent = region.extent; is = found.there ∙ ap Some region.is }

  built_none : (k : ℕ) (q : Path) → same_path (k ∷ q) (0 ∷ []) ≡ false → g.built.body (k ∷ q) ≡ None
  unfolding apply
  built_none k q apart = rw (may.region, apart) refl

  pin_none : w.body (pin_of root) ≡ None
  pin_none = subst (λ (p : Pin). PinShows nester slot w p) may.pin shows.pin

  -- beneath the new space there is nothing else
  none_else : (k : ℕ) (q : Path) → same_path (k ∷ q) (0 ∷ []) ≡ false → w.body (k ∷ (q ++ root)) ≡ None
  none_else k q apart = by (same_path (k ∷ (q ++ root)) (pin_of root)) refl (w.body (k ∷ (q ++ root))) refl (sym (built_none k q apart)
      ∙ shows.like.bodies (k ∷ q))
    where
      by : (t : Bool) → same_path (k ∷ (q ++ root)) (pin_of root) ≡ t → (o : Option Body) → w.body (k ∷ (q ++ root)) ≡ o
          → None ≡ option_map (λ b. unheld (k ∷ q) (seen_by (seeing (eye nester slot)) b)) (cond t None o) → o ≡ None
      by true e o is h = let same = same_path_eq (k ∷ (q ++ root)) (pin_of root) e in sym is ∙ ap (λ (y : Path). w.body y) same ∙ pin_none
      by false e None is h = refl
      by false e (Some b) is h = cc

  kind_is : kind_there w x ≡ Some kinds.Region
  unfolding kind_there
  kind_is = let its = there in rw its.is refl

  nobody : (k : ℕ) → w.body (k ∷ x) ≡ None
  nobody k = by (w.body (k ∷ x)) refl
    where
      by : (o : Option Body) → w.body (k ∷ x) ≡ o → o ≡ None
      by None e = refl
      by (Some b) e =
          let live : IsSome (w.body (k ∷ x)) = rw e refl in
          let space = valid.consistent.parents k x live in
          let both = sym kind_is ∙ space in
          cc

  its_leaf : leaf w x ≡ x
  unfolding leaf
  its_leaf = leaf_alone depth w x (lowest_off SLOTS (λ k. option_map (λ b. k) (w.body (k ∷ x))) (λ k. rw (nobody k) refl))

  deaden-row : call_row w (porter nester no_words) None (Destroy slot 0) ≡ Goes (Kill x ∷ []) (Answered OK [])
  unfolding call_row destroy
  deaden-row =
      let its = there in
      let object : object_in w (porter nester no_words) anything root 0
      ≡ Ok (Region its.extent) = object-there nester no_words w anything root 0 (Region its.extent) (Region its.extent) refl its.is refl in
      let free : is_frozen_for w me x ≡ false = unfrozen nester slot g w shows (0 ∷ []) in
      rw (
        root_named nester slot g w shows no_words,
        object,
        free,
        above_off nester slot g w shows valid 0 root (omega arith),
        its_leaf,
        free,
        its.is,
        same_path_refl x,
      ) refl

  abbrev v : World
  v = apply (Kill x) w

  apart_up : (y : Path) → length y ≤ suc (length nester) → same_path y x ≡ false
  apart_up y short = same_path_ne y x (λ e. omega (arith, short, ap length e))

  root_kept : holder_of (v.body root) ≡ Some (At me)
  unfolding apply
  root_kept = rw (apart_up root (omega arith)) (by (w.body root) shows.holder)
    where
      by : (o : Option Body) → holder_of o ≡ Some (At me) → holder_of (option_map (through (death_sweep x) root) o) ≡ Some (At me)
      by (Some (Space birth (Some p))) h = let is : p ≡ At me = cc in rw (is, apart_up me (omega arith)) refl
      by (Some (Space birth None)) h = cc
      by (Some (Mutex locked)) h = cc
      by (Some Cond) h = cc
      by (Some (Mapping m)) h = cc
      by (Some (Region e)) h = cc
      by (Some (Port set served)) h = cc
      by (Some Portset) h = cc
      by (Some (Thread_of t)) h = cc
      by (Some (Reference to)) h = cc
      by None h = cc

  none_now : (k : ℕ) (q : Path) → v.body (k ∷ (q ++ root)) ≡ None
  unfolding apply
  none_now k q = by (same_path (k ∷ (q ++ root)) x) (same_path_cancel (k ∷ q) (0 ∷ []) root)
    where
      by : (t : Bool) → t ≡ same_path (k ∷ q) (0 ∷ []) → cond t None (option_map (through (death_sweep x) (k ∷ (q ++ root))) (w.body (k ∷ (q ++ root)))) ≡ None
      by true e = refl
      by false e = rw (none_else k q (sym e)) refl

  pages_now : (q : Path) (page : ℕ) → v.page (q ++ root) page ≡ None
  unfolding apply
  pages_now q page = by (same_path (q ++ root) x)
    where
      empty : w.page (q ++ root) page ≡ None
      empty = sym (shows.like.pages q page) ∙ ap (λ (c : World). c.page q page) may.region

      by : (t : Bool) → cond t None (w.page (q ++ root) page) ≡ None
      by true = refl
      by false = empty

  record RootNow : Type 0 where
    pub birth : ℕ
    pub holder : Option Ptr
    pub is : v.body root ≡ Some (Space birth holder)

  root_now : RootNow
  unfolding apply
  root_now = let space = root_there nester slot g w shows in
      record { birth = space.birth; holder = and_then (death_sweep x).holder space.holder; is = rw (apart_up root (omega arith), space.is) refl }

  alone_now : IsLikeness root (eye nester slot) alone (bare root v)
  unfolding kind_there seen_by
  alone_now = record {
    bodies = its;
    pages = λ q page. sym (pages_now q page);
    unborn = refl;
    top = let space = root_now in rw (same_path_ne root (pin_of root) (λ e. omega (arith, ap length e)), space.is) refl;
    plain = λ k q. rw (none_now k q) (nothing _ (same_path (k ∷ (q ++ root)) (pin_of root)));
    within = λ x. rw (strip-append root x) refl;
    null = refl;
    dead = refl;
  }
    where
      nothing : (P : Body → Type 0) (t : Bool) → IfSome (cond {A = Option Body} t None None) P
      nothing P true = tt
      nothing P false = tt

      both_none : (t : Bool) → None ≡ cond {A = Option Body} t None None
      both_none true = refl
      both_none false = refl

      its : (q : Path) → alone.body q ≡ option_map (λ b. unheld q (seen_by (seeing (eye nester slot)) b)) ((bare root v).body (q ++ root))
      its [] = let space = root_now in rw (same_path_ne root (pin_of root) (λ e. omega (arith, ap length e)), space.is) refl
      its (k ∷ q) = rw (none_now k q, ← both_none (same_path (k ∷ (q ++ root)) (pin_of root))) refl

  spot_now : (k : ℕ) (o : Option Spot) → leads_nowhere o ≡ true → SpotShows nester slot w g.pin k o → SpotShows nester slot v g.pin k o
  unfolding apply
  spot_now k None h shown = rw (apart_up (k ∷ nester) (omega arith), shown) refl
  spot_now k (Some (To Null)) h shown = (rw (apart_up (k ∷ nester) (omega arith), shown.0) refl, tt)
  spot_now k (Some (To Dead)) h shown = cc
  spot_now k (Some (To (At q))) h shown = cc
  spot_now k (Some (To (Out i))) h shown = cc
  spot_now k (Some (To Outside)) h shown = cc
  spot_now k (Some (To Far)) h shown = cc
  spot_now k (Some Unsure) h shown = cc

  dead_now : v.body (r ∷ nester) ≡ Some (Reference Dead)
  unfolding apply
  dead_now = let led = ref_led nester slot g w shows r (At (0 ∷ [])) may.scratch may.led in
      rw (apart_up (r ∷ nester) (omega arith), led.0, same_path_refl x) refl

  shown_now : Shows nester slot (with_spot r (Some (To Dead)) (with_built alone g)) v
  unfolding apply
  shown_now = record {
    low = shows.low;
    holder = root_kept;
    above = decider_none v nester (λ p a e.
        let short : length a ≤ length nester = omega (arith, ap length e, length-append p a) in
        rw (apart_up a (omega (arith, short))) (swept_holder x a (w.body a)
        (holder_none w a (none_above w p a (subst (λ (y : Path). decider w y ≡ None) e shows.above)))));
    porter = rw (apart_up me (omega arith)) (swept_native x me (w.body me) shows.porter);
    like = alone_now;
    pin = pin_now g.pin may.pin;
    spots = λ k is. by k (eqb k r) refl (shows.spots k is);
  }
    where
      pin_now : (p : Pin) → p ≡ NoPin → PinShows nester slot v p
      pin_now p e = subst (λ (p : Pin). PinShows nester slot v p) (sym e) (none_now FIRST_SCRATCH_SLOT [])

      by : (k : ℕ) (t : Bool) → eqb k r ≡ t → SpotShows nester slot w g.pin k (g.spot k) → SpotShows nester slot v g.pin k (cond t (Some (To Dead)) (g.spot k))
      by k true e h = let is = eqb-true k r e in rw is (dead_now, tt)
      by k false e h = spot_now k (g.spot k) (may.others k (λ same. apart same)) h
        where
          apart : k ≡ r → ⊥
          apart same = let on : eqb k r ≡ true = rw same (eq-eqb r r refl) in cc

  pub deadens-plain : Plain nester slot g w shows valid.consistent (Deadens r)
  unfolding apply_all
  deadens-plain = record { changes = Kill x ∷ []; near = (inside_near nester slot (0 ∷ []), tt); row = deaden-row; shown = shown_now }
