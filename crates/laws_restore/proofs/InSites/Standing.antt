-- What a restorer's calls read of the world, by its site.
use Rattle.std.proofs.Common.{◌≡◌, ℕ, ◌≤◌, Bool, true, false, cond, nat_le, IsSome, IfSome, List, [], ◌∷◌, ◌++◌, length, Option, Some, None, option_map, Ok}
use Rattle.std.proofs.Common.{refl, sym, ap, subst, arith, length-append, ◌∙◌}
use Rattle.std.proofs.lemmas.Bool.{and_parts, leb-true, le-leb, ne_eqb}
use Rattle.fk_model.specs.declared.limits.TheConstants.{OWN_SPACE, LAST_USER_SLOT, FIRST_SCRATCH_SLOT, LAST_SCRATCH_SLOT, LAST_PORTER_SLOT}
use Rattle.fk_model.specs.Places.{Path, same_path, Ptr}
use Rattle.fk_model.specs.Places.Ptr.{At}
use Rattle.fk_model.specs.Objects.{Body, kind_of}
use Rattle.fk_model.specs.Objects.Body.{Mutex, Cond, Mapping, Region, Port, Portset, Space, Thread_of, Reference}
use Rattle.fk_model.specs.World.{World, Sweep}
use Rattle.fk_model.specs.Holds.{holder_of, decider, is_frozen_for, is_decided_by}
use Rattle.fk_model.specs.Readers.{space_argument, handle}
use Rattle.fk_model.specs.ObjectRows.{is_scratch}
use Rattle.fk_model.specs.Cut.{seen_by, unheld}
use Rattle.fk_model.proofs.walks.PlaceLaws.{same_path_refl, same_path_ne}
use Rattle.laws_subtrees.specs.Cut.Likeness.{seeing, HasLikeness, IsPlainBody}
use Rattle.laws_jobs.specs.Machines.{porter}
use Rattle.laws_restore.specs.Sites.Orders.{Spot, Site, pin_of, lifted, eye, bare, SpotShows, Shows, is_space, is_ref_slot, Named, IsPlace}
use Rattle.laws_restore.specs.Sites.Orders.Spot.{To, Unsure}
use Rattle.laws_restore.specs.Sites.Orders.Named.{ByRoot, ByScratch}

pub kind_seen : (f : Sweep) (b : Body) → kind_of (seen_by f b) ≡ kind_of b
unfolding seen_by
kind_seen f (Mutex locked) = refl
kind_seen f Cond = refl
kind_seen f (Mapping m) = refl
kind_seen f (Region r) = refl
kind_seen f (Port set served) = refl
kind_seen f Portset = refl
kind_seen f (Space birth holder) = refl
kind_seen f (Thread_of t) = refl
kind_seen f (Reference to) = refl

pub record IsSpaceBody (o : Option Body) : Type 0 where
  pub birth : ℕ
  pub holder : Option Ptr
  pub is : o ≡ Some (Space birth holder)

held_space : (p : Ptr) (o : Option Body) → holder_of o ≡ Some p → IsSpaceBody o
held_space p (Some (Space birth holder)) h = record { birth = birth; holder = holder; is = refl }
held_space p (Some (Mutex locked)) h = cc
held_space p (Some Cond) h = cc
held_space p (Some (Mapping m)) h = cc
held_space p (Some (Region r)) h = cc
held_space p (Some (Port set served)) h = cc
held_space p (Some Portset) h = cc
held_space p (Some (Thread_of t)) h = cc
held_space p (Some (Reference to)) h = cc
held_space p None h = cc

seen_space : (f : Sweep) (b : Body) → is_space (Some (seen_by f b)) ≡ true → IsSpaceBody (Some b)
unfolding seen_by
seen_space f (Space birth holder) h = record { birth = birth; holder = holder; is = refl }
seen_space f (Mutex locked) h = cc
seen_space f Cond h = cc
seen_space f (Mapping m) h = cc
seen_space f (Region r) h = cc
seen_space f (Port set served) h = cc
seen_space f Portset h = cc
seen_space f (Thread_of t) h = cc
seen_space f (Reference to) h = cc

module _ (nester : Path) (slot : ℕ) (g : Site) (w : World) (shows : Shows nester slot g w) where
  abbrev root : Path
  root = slot ∷ nester

  abbrev me : Path
  me = LAST_PORTER_SLOT ∷ nester

  abbrev see : Ptr → Ptr
  see = eye nester slot

  -- ---- who decides

  mine : (q : Path) → decider w (q ++ root) ≡ Some (At me)
  unfolding decider
  mine [] = rw (shows.above, shows.holder) refl
  mine (k ∷ q) = rw (mine q) refl

  pub unfrozen : (q : Path) → is_frozen_for w me (q ++ root) ≡ false
  unfrozen q = rw (mine q, same_path_refl me) refl

  pub decides : (q : Path) → is_decided_by w me (q ++ root) ≡ true
  decides q = rw (mine q, same_path_refl me) refl

  pub nester_unfrozen : is_frozen_for w me nester ≡ false
  nester_unfrozen = rw shows.above refl

  -- ---- scratch

  pub ref_slot : (r : ℕ) → is_ref_slot r ≡ true → is_scratch nester (r ∷ nester) ≡ true
  ref_slot r h = rw (same_path_refl nester) h

  pub ref_range : (r : ℕ) → is_ref_slot r ≡ true → (FIRST_SCRATCH_SLOT ≤ r) × (r ≤ LAST_SCRATCH_SLOT)
  ref_range r h = let both = and_parts (nat_le FIRST_SCRATCH_SLOT r) (nat_le r LAST_SCRATCH_SLOT) h in
      (leb-true FIRST_SCRATCH_SLOT r both.0, leb-true r LAST_SCRATCH_SLOT both.1)

  pub ref_named : (r : ℕ) → is_ref_slot r ≡ true → nat_le r LAST_PORTER_SLOT ≡ true
  ref_named r h = let range = ref_range r h in let most = range.1 in le-leb r LAST_PORTER_SLOT (omega (arith, most))

  pub user_named : (x : ℕ) → x ≤ LAST_USER_SLOT → nat_le x LAST_PORTER_SLOT ≡ true
  user_named x most = le-leb x LAST_PORTER_SLOT (omega (arith, most))

  -- what a scratch reference leads to
  pub record IsRef (r : ℕ) : Type 0 where
    pub to : Ptr
    pub is : w.body (r ∷ nester) ≡ Some (Reference to)

  spot_ref : (r : ℕ) (o : Option Spot) → IsSome o → SpotShows nester slot w g.pin r o → IsRef r
  spot_ref r (Some (To p)) there shown = record { to = lifted nester slot p; is = shown.0 }
  spot_ref r (Some Unsure) there shown = record { to = shown.0; is = shown.1 }
  spot_ref r None there shown = cc

  pub ref_there : (r : ℕ) → is_ref_slot r ≡ true → IsSome (g.spot r) → IsRef r
  ref_there r is there = spot_ref r (g.spot r) there (shows.spots r (ref_slot r is))

  pub ref_led : (r : ℕ) (p : Ptr) → is_ref_slot r ≡ true → g.spot r ≡ Some (To p) → SpotShows nester slot w g.pin r (Some (To p))
  ref_led r p is led = subst (λ (o : Option Spot). SpotShows nester slot w g.pin r o) led (shows.spots r (ref_slot r is))

  pub ref_unfrozen : (r : ℕ) (to : Ptr) → w.body (r ∷ nester) ≡ Some (Reference to) → is_frozen_for w me (r ∷ nester) ≡ false
  unfolding decider
  ref_unfrozen r to is = rw (shows.above, is) refl

  -- ---- objects inside

  pub record Big (k : ℕ) (q : Path) (b : Body) : Type 0 where
    pub body : Body
    pub there : w.body (k ∷ (q ++ root)) ≡ Some body
    pub seen : b ≡ seen_by (seeing see) body
    pub plain : IsPlainBody see (HasLikeness root see (bare root w)) body

  pub big : (k : ℕ) (q : Path) (b : Body) → g.built.body (k ∷ q) ≡ Some b → Big k q b
  big k q b there = by (same_path (k ∷ (q ++ root)) (pin_of root)) (w.body (k ∷ (q ++ root))) refl (sym there ∙ shows.like.bodies (k ∷ q))
      (shows.like.plain k q)
    where
      by : (t : Bool) (o : Option Body) → w.body (k ∷ (q ++ root)) ≡ o → Some b ≡ option_map (λ b. unheld (k ∷ q) (seen_by (seeing see) b)) (cond t None o) →
          IfSome (cond t None o) (IsPlainBody see (HasLikeness root see (bare root w))) → Big k q b
      by true o is e plain = cc
      by false None is e plain = cc
      by false (Some body) is e plain = record { body = body; there = is; seen = cc; plain = plain }

  pub empty_there : (k : ℕ) (q : Path) → k ≤ LAST_USER_SLOT → g.built.body (k ∷ q) ≡ None → w.body (k ∷ (q ++ root)) ≡ None
  empty_there k q low empty = by (same_path (k ∷ (q ++ root)) (pin_of root)) (w.body (k ∷ (q ++ root))) apart (sym empty ∙ shows.like.bodies (k ∷ q))
    where
      apart : same_path (k ∷ (q ++ root)) (pin_of root) ≡ false
      apart = same_path_ne (k ∷ (q ++ root)) (pin_of root) (λ e. let slots : k ≡ FIRST_SCRATCH_SLOT = cc in omega (arith, slots, low))

      by : (t : Bool) (o : Option Body) → t ≡ false → None ≡ option_map (λ b. unheld (k ∷ q) (seen_by (seeing see) b)) (cond t None o) → o ≡ None
      by true o off e = cc
      by false None off e = refl
      by false (Some body) off e = cc

  -- and deeper inside, in any slot
  pub empty_beneath : (k x : ℕ) (q : Path) → g.built.body (k ∷ x ∷ q) ≡ None → w.body (k ∷ x ∷ (q ++ root)) ≡ None
  empty_beneath k x q empty = by (same_path (k ∷ x ∷ (q ++ root)) (pin_of root)) (w.body (k ∷ x ∷ (q ++ root))) apart (sym empty
      ∙ shows.like.bodies (k ∷ x ∷ q))
    where
      apart : same_path (k ∷ x ∷ (q ++ root)) (pin_of root) ≡ false
      apart = same_path_ne (k ∷ x ∷ (q ++ root)) (pin_of root) (λ e. omega (arith, ap length e, length-append q root))

      by : (t : Bool) (o : Option Body) → t ≡ false → None ≡ option_map (λ b. unheld (k ∷ x ∷ q) (seen_by (seeing see) b)) (cond t None o) → o ≡ None
      by true o off e = cc
      by false None off e = refl
      by false (Some body) off e = cc

  pub root_there : IsSpaceBody (w.body root)
  root_there = held_space (At me) (w.body root) shows.holder

  pub space_there : (q : Path) → is_space (g.built.body q) ≡ true → IsSpaceBody (w.body (q ++ root))
  space_there [] is = root_there
  space_there (k ∷ q) is = by (g.built.body (k ∷ q)) refl is
    where
      by : (o : Option Body) → g.built.body (k ∷ q) ≡ o → is_space o ≡ true → IsSpaceBody (w.body (k ∷ (q ++ root)))
      by None e h = cc
      by (Some b) e h =
          let found = big k q b e in
          let space = seen_space (seeing see) found.body (subst (λ (b : Body). is_space (Some b) ≡ true) found.seen h) in
          record { birth = space.birth; holder = space.holder; is = found.there ∙ space.is }

  -- ---- places

  pub root_named : (words : List ℕ) → space_argument w (porter nester words) slot ≡ Ok root
  unfolding space_argument handle
  root_named words =
      let low = shows.low in
      let space = root_there in
      rw (ne_eqb slot OWN_SPACE (λ e. omega (arith, low, e)), le-leb slot LAST_PORTER_SLOT (omega (arith, low)), space.is) refl

  scratch_named : (words : List ℕ) (s : ℕ) (q : Path) → is_ref_slot s ≡ true → g.spot s ≡ Some (To (At q)) → IsSpaceBody (w.body (q ++ root))
      → space_argument w (porter nester words) s ≡ Ok (q ++ root)
  unfolding space_argument handle
  scratch_named words s q is led space =
      let range = ref_range s is in
      let most = range.1 in
      let there = ref_led s (At q) is led in
      rw (ne_eqb s OWN_SPACE (λ e. omega (arith, most, e)), ref_named s is, there.0, space.is) refl

  pub place-row : (words : List ℕ) (s : ℕ) (q : Path) → IsPlace g slot s q → space_argument w (porter nester words) s ≡ Ok (q ++ root)
  place-row words s q place = by s q place.named place.space
    where
      by : (s : ℕ) (q : Path) → Named g slot s q → is_space (g.built.body q) ≡ true → space_argument w (porter nester words) s ≡ Ok (q ++ root)
      by _ _ ByRoot space = root_named words
      by _ _ (ByScratch s q is led) space = scratch_named words s q is led (space_there q space)
