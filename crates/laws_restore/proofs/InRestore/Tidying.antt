-- What a restore leaves as it was while it works: its nester, and all scratch but its own.
use Rattle.std.proofs.Common.{◌≡◌, ℕ, ◌≤◌, Bool, true, false, cond, ◌&&◌, nat_le, IsSome, is_some, List, [], ◌∷◌, ◌++◌, length, Option, Some, None, option_map}
use Rattle.std.proofs.Common.{◌⊎◌, inl, inr, refl, sym, ap, subst, arith, length-append, ◌∙◌}
use Rattle.std.proofs.lemmas.Bool.{and_parts, or_cases, leb-true}
use Rattle.fk_model.specs.declared.limits.TheConstants.{LAST_USER_SLOT, FIRST_SCRATCH_SLOT, LAST_SCRATCH_SLOT, LAST_PORTER_SLOT}
use Rattle.fk_model.specs.Places.{Path, same_path, strip, is_within}
use Rattle.fk_model.specs.Objects.{Body, and_then, holds}
use Rattle.fk_model.specs.Objects.Body.{Mutex, Cond, Mapping, Region, Port, Portset, Space, Thread_of, Reference}
use Rattle.fk_model.specs.World.{World, Change, edited, through, death_sweep, apply, apply_all}
use Rattle.fk_model.specs.World.Change.{Alter, Make, MakeSpace, Kill, Move, PutPage, DropPage}
use Rattle.fk_model.specs.StateRows.{is_native}
use Rattle.fk_model.specs.ObjectRows.{is_scratch}
use Rattle.fk_model.specs.Runs.{Event, after}
use Rattle.fk_model.specs.Valid.{IsValid, birth_of, birth_at}
use Rattle.fk_model.specs.Whole.{is_scratch_slot}
use Rattle.fk_model.specs.Sound.{IsClean}
use Rattle.fk_model.proofs.walks.PlaceLaws.{same_path_eq, strip_some}
use Rattle.laws_moves.specs.Frozen.Holding.{IsUsersMove}
use Rattle.laws_jobs.specs.Jobs.{MayBegin}
use Rattle.laws_jobs.proofs.Filling.{users_fill_low, scratch_high}
use Rattle.laws_jobs.proofs.Nesters.{nester_stays}
use Rattle.laws_restore.specs.Sites.Near.{is_near, IsNearChange, AreNear, IsNearCall}
use Rattle.laws_restore.proofs.InSites.Near.{not_there}
use Rattle.laws_restore.proofs.InRestore.Emptying.{IsEmptied, left_world, was_there, nester_named}

-- of an object that isn't there nothing is asked
no_such : (Q : Type 0) (o : Option Body) → o ≡ None → IsSome o → Q
no_such Q None e h = cc
no_such Q (Some b) e h = cc

empty_from : (o : Option Body) → (IsSome o → ⊥) → o ≡ None
empty_from None h = refl
empty_from (Some b) h = absurd (h refl)

module _ (nester : Path) (slot birth : ℕ) where
  abbrev root : Path
  root = slot ∷ nester

  abbrev me : Path
  me = LAST_PORTER_SLOT ∷ nester

  -- the nester stands, and scratch is in it or in its new space alone
  pub record Tidied (v : World) : Type 0 where
    pub named : birth_at v nester ≡ Some birth
    pub near : (s : Path) (k : ℕ) → is_scratch s (k ∷ s) ≡ true → IsSome (v.body (k ∷ s)) → is_near nester slot (k ∷ s) ≡ true

  pub tidied_first : (w : World) → MayBegin w nester birth → Tidied w
  tidied_first w may = record { named = may.named; near = λ s k is live. no_such (is_near nester slot (k ∷ s) ≡ true) (w.body (k ∷ s)) (may.clean s k is) live }

  pub tidied_others : (v : World) (e : Event) → IsUsersMove nester v e → holds is_native ((after v e).body me) ≡ true → Tidied v → Tidied (after v e)
  tidied_others v e moves native its = record {
    named = nester_stays v e moves.valid moves.few moves.users nester native ∙ its.named;
    near = λ s k is live. its.near s k is (users_fill_low v e moves.valid.rooted moves.users s k (scratch_high s k is) live);
  }

  -- ---- own calls

  nester_inside : is_within root nester ≡ false
  nester_inside = by (strip root nester) refl
    where
      by : (o : Option Path) → strip root nester ≡ o → is_some o ≡ false
      by None e = refl
      by (Some q) e = let at = strip_some root nester q e in absurd (omega (arith, ap length at, length-append q root))

  nester_scratch : is_scratch nester nester ≡ false
  nester_scratch = by (is_scratch nester nester) refl
    where
      at : (y : Path) → y ≡ nester → is_scratch nester y ≡ true → ⊥
      at [] e h =
          let both = and_parts (same_path [] nester && nat_le FIRST_SCRATCH_SLOT 0) (nat_le 0 LAST_SCRATCH_SLOT) h in
          let first = and_parts (same_path [] nester) (nat_le FIRST_SCRATCH_SLOT 0) both.0 in
          let second = first.1 in cc
      at (k ∷ y) e h =
          let both = and_parts (same_path y nester && nat_le FIRST_SCRATCH_SLOT k) (nat_le k LAST_SCRATCH_SLOT) h in
          let first = and_parts (same_path y nester) (nat_le FIRST_SCRATCH_SLOT k) both.0 in
          omega (arith, ap length (same_path_eq y nester first.0), ap length e)

      by : (t : Bool) → is_scratch nester nester ≡ t → t ≡ false
      by false e = refl
      by true e = absurd (at nester refl e)

  swept_birth : (x y : Path) (number : ℕ) (o : Option Body) → and_then birth_of o ≡ Some number
      → and_then birth_of (option_map (through (death_sweep x) y) o) ≡ Some number
  swept_birth x y number (Some (Space birth holder)) h = h
  swept_birth x y number (Some (Thread_of t)) h = cc
  swept_birth x y number (Some (Mutex locked)) h = cc
  swept_birth x y number (Some Cond) h = cc
  swept_birth x y number (Some (Mapping m)) h = cc
  swept_birth x y number (Some (Region r)) h = cc
  swept_birth x y number (Some (Port set served)) h = cc
  swept_birth x y number (Some Portset) h = cc
  swept_birth x y number (Some (Reference to)) h = cc
  swept_birth x y number None h = cc

  was : (f : Body → Body) (o : Option Body) → IsSome (option_map f o) → IsSome o
  was f (Some b) h = refl
  was f None h = cc

  -- a change of what is near
  on_path : (v : World) → Tidied v → (x : Path) → is_near nester slot x ≡ true
      → (f : Option Body → Option Body) (g : Path → Option Body → Option Body) (s : Path) (k : ℕ) → is_scratch s (k ∷ s) ≡ true →
      ((y : Path) (o : Option Body) → IsSome (g y o) → IsSome o) → (t : Bool) → same_path (k ∷ s) x ≡ t
      → IsSome (cond t (f (v.body (k ∷ s))) (g (k ∷ s) (v.body (k ∷ s)))) → is_near nester slot (k ∷ s) ≡ true
  on_path v its x near f g s k is back true e live = let here = same_path_eq (k ∷ s) x e in subst (λ (y : Path). is_near nester slot y ≡ true) (sym here) near
  on_path v its x near f g s k is back false e live = its.near s k is (back (k ∷ s) (v.body (k ∷ s)) live)

  change_tidied : (c : Change) (v : World) → IsNearChange nester slot c → Tidied v → Tidied (apply c v)
  unfolding apply
  change_tidied (Alter x edit) v near its = record {
    named = rw (not_there nester slot x nester near.0 nester_inside nester_scratch) its.named;
    near = λ s k is live. on_path v its x near.0 (option_map (edited edit)) (λ y o. o) s k is (λ y o h. h) (same_path (k ∷ s) x) refl live;
  }
  change_tidied (Make x body) v near its = record {
    named = rw (not_there nester slot x nester near.0 nester_inside nester_scratch) its.named;
    near = λ s k is live. on_path v its x near.0 (λ o. Some body) (λ y o. o) s k is (λ y o h. h) (same_path (k ∷ s) x) refl live;
  }
  change_tidied (MakeSpace x holder) v near its = record {
    named = rw (not_there nester slot x nester near nester_inside nester_scratch) its.named;
    near = λ s k is live. on_path v its x near (λ o. Some (Space v.next holder)) (λ y o. o) s k is (λ y o h. h) (same_path (k ∷ s) x) refl live;
  }
  change_tidied (Kill x) v near its = record {
    named = rw (not_there nester slot x nester near nester_inside nester_scratch) (swept_birth x nester birth (v.body nester) its.named);
    near = λ s k is live. on_path v its x near (λ o. None) (λ y o. option_map (through (death_sweep x) y) o) s k is
        (λ y o h. was (through (death_sweep x) y) o h) (same_path (k ∷ s) x) refl live;
  }
  change_tidied (PutPage space page words) v near its = record { named = its.named; near = its.near }
  change_tidied (DropPage space page) v near its = absurd near
  change_tidied (Move x k) v near its = absurd near

  changes_tidied : (cs : List Change) (v : World) → AreNear nester slot cs → Tidied v → Tidied (apply_all cs v)
  unfolding apply_all
  changes_tidied [] v near its = its
  changes_tidied (c ∷ cs) v near its = changes_tidied cs (apply c v) near.1 (change_tidied c v near.0 its)

  pub tidied_near : (v : World) (e : Event) → IsNearCall nester slot v e → Tidied v → Tidied (after v e)
  tidied_near v e near its = subst Tidied (sym near.world) (changes_tidied near.changes v near.near its)

  pub tidied_emptied : (v : World) (valid : IsValid v) (xs : List Path) (its : IsEmptied nester slot v xs) → Tidied v
      → Tidied (left_world nester slot v valid xs its)
  tidied_emptied v valid xs its tidied = record {
    named = nester_named nester slot v valid xs its birth tidied.named;
    near = λ s k is live. tidied.near s k is (was_there nester slot v valid xs its (k ∷ s) live);
  }

  -- ---- at the end

  slot_of_scratch : (s : Path) (k : ℕ) → is_scratch s (k ∷ s) ≡ true → is_scratch_slot k ≡ true
  slot_of_scratch s k is =
      let high = scratch_high s k is in
      let both = and_parts (same_path s s && nat_le FIRST_SCRATCH_SLOT k) (nat_le k LAST_SCRATCH_SLOT) is in
      rw (high, both.1) refl

  -- where neither the new space nor the nester has any, no space has
  pub clean_from : (v : World) → slot ≤ LAST_USER_SLOT → Tidied v → ((k : ℕ) (q : Path) → is_scratch_slot k ≡ true → v.body (k ∷ (q ++ root)) ≡ None)
      → ((k : ℕ) → is_scratch nester (k ∷ nester) ≡ true → v.body (k ∷ nester) ≡ None) → IsClean v
  clean_from v low its inside own s k is = empty_from (v.body (k ∷ s))
      (λ live. by live (or_cases (is_within root (k ∷ s)) (is_scratch nester (k ∷ s)) (its.near s k is live)))
    where
      within : (q : Path) → k ∷ s ≡ q ++ root → v.body (k ∷ s) ≡ None
      within [] e =
          let same : k ≡ slot = cc in
          let both = and_parts (same_path s s && nat_le FIRST_SCRATCH_SLOT k) (nat_le k LAST_SCRATCH_SLOT) is in
          let first = and_parts (same_path s s) (nat_le FIRST_SCRATCH_SLOT k) both.0 in
          let least = leb-true FIRST_SCRATCH_SLOT k first.1 in
          absurd (omega (arith, same, least, low))
      within (j ∷ q) e = let same : k ≡ j = cc in let spaces : s ≡ q ++ root = cc in rw spaces (inside k q (slot_of_scratch s k is))

      way : (o : Option Path) → strip root (k ∷ s) ≡ o → is_some o ≡ true → v.body (k ∷ s) ≡ None
      way None e h = cc
      way (Some q) e h = within q (strip_some root (k ∷ s) q e)

      scratch : is_scratch nester (k ∷ s) ≡ true → v.body (k ∷ s) ≡ None
      scratch h =
          let both = and_parts (same_path s nester && nat_le FIRST_SCRATCH_SLOT k) (nat_le k LAST_SCRATCH_SLOT) h in
          let first = and_parts (same_path s nester) (nat_le FIRST_SCRATCH_SLOT k) both.0 in
          let here : s ≡ nester = same_path_eq s nester first.0 in
          let at : is_scratch nester (k ∷ nester) ≡ true = subst (λ (z : Path). is_scratch nester (k ∷ z) ≡ true) here h in
          rw here (own k at)

      by : IsSome (v.body (k ∷ s)) → (is_within root (k ∷ s) ≡ true) ⊎ (is_scratch nester (k ∷ s) ≡ true) → ⊥
      by live (inl h) = no_such ⊥ (v.body (k ∷ s)) (way (strip root (k ∷ s)) refl h) live
      by live (inr h) = no_such ⊥ (v.body (k ∷ s)) (scratch h) live
