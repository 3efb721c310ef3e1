-- Reach: one slot at a time, and one mapping at a time.
use Rattle.std.proofs.Common.{◌≡◌, ℕ, zero, suc, ◌+◌, ◌-◌, ◌<◌, ◌≤◌, inl, inr, Bool, true, false, Option, Some, None, option_map, is_some, IsSome}
use Rattle.std.proofs.Common.{refl, sym, ap, subst, ◌∙◌, arith, add-one}
use Rattle.std.proofs.lemmas.Bool.{cases_lt}
use Rattle.fk_model.specs.Places.{Path}
use Rattle.fk_model.specs.Objects as objects
use Rattle.fk_model.specs.Objects.{and_then, or_else}
use Rattle.fk_model.specs.World.{World}
use Rattle.fk_model.specs.Searches.{lowest}
use Rattle.fk_model.specs.Reach as definition
use Rattle.fk_store.specs.Store.Reaches.{covering_mapping, covering_region}

pub some_mapped : {A B : Type 0} (f : A → B) (o : Option A) → is_some o ≡ true → IsSome (option_map f o)
some_mapped f None h = h
some_mapped f (Some a) h = refl

pub none_mapped : {A B : Type 0} (f : A → B) (o : Option A) → is_some o ≡ false → option_map f o ≡ None
none_mapped f None h = refl
none_mapped f (Some a) h = absurd (cc)

pub lowest-zero : {A : Type 0} (f : ℕ → Option A) → lowest 0 f ≡ None
unfolding lowest
lowest-zero f = refl

pub lowest-none : {A : Type 0} (i : ℕ) (f : ℕ → Option A) → lowest i f ≡ None → f i ≡ None → lowest (i + 1) f ≡ None
unfolding lowest
lowest-none i f before here = rw (add-one, before) here

pub lowest-first : {A : Type 0} (n i : ℕ) (f : ℕ → Option A) (o : Option A) → lowest i f ≡ None → f i ≡ o → IsSome o → i < n → lowest n f ≡ o
unfolding lowest
lowest-first zero i f o before here some low = absurd (omega arith)
lowest-first {A = A} (suc n) i f o before here some low = elim (cases_lt i n) [
  | inl less ↦ rw (lowest-first n i f o before here some less) (first o some)
  | inr past ↦ let same : n ≡ i = omega arith in rw (same, before) here
]
  where
    first : (o : Option A) → IsSome o → or_else o (f n) ≡ o
    first None h = absurd (cc)
    first (Some a) h = refl

module _ (w : World) (s : Path) (page i : ℕ) (low : i < 256) where
  -- the first slot that has one is the lowest
  pub mapping-first : (o : Option objects.Window) →
      lowest i (covering_mapping w s page) ≡ None → o ≡ covering_mapping w s page i → IsSome o → o ≡ definition.mapping_at w s page
  unfolding definition.mapping_at
  mapping-first o before here some = sym (lowest-first 256 i (covering_mapping w s page) o before (sym here) some low)

  pub region-first : (o : Option objects.Extent) →
      lowest i (covering_region w s page) ≡ None → o ≡ covering_region w s page i → IsSome o → o ≡ definition.region_at w s page
  unfolding definition.region_at
  region-first o before here some = sym (lowest-first 256 i (covering_region w s page) o before (sym here) some low)

-- past the last slot there is none
pub mapping-none : (w : World) (s : Path) (page i : ℕ) → 256 ≤ i → i ≤ 256 → lowest i (covering_mapping w s page) ≡ None → None ≡ definition.mapping_at w s page
unfolding definition.mapping_at
mapping-none w s page i past low before = let end : i ≡ 256 = omega arith in sym (subst (λ n. lowest n (covering_mapping w s page) ≡ None) end before)

pub region-none : (w : World) (s : Path) (page i : ℕ) → 256 ≤ i → i ≤ 256 → lowest i (covering_region w s page) ≡ None → None ≡ definition.region_at w s page
unfolding definition.region_at
region-none w s page i past low before = let end : i ≡ 256 = omega arith in sym (subst (λ n. lowest n (covering_region w s page) ≡ None) end before)

-- ---- a walk of at most 16 mappings

pub reach-begin : (w : World) (s : Path) (page : ℕ) (write : Bool) → definition.reach_within 16 w s page write ≡ definition.reach w s page write
unfolding definition.reach
reach-begin w s page write = refl

-- a hop on is one mapping less to follow
pub reach-on : (w : World) (s : Path) (page : ℕ) (write : Bool) (next : definition.Reach) (k : ℕ) →
    ((n : ℕ) → definition.reach_within (suc n) w s page write ≡ next) → k < 16 → definition.reach_within (16 - k) w s page write ≡ next
reach-on w s page write next k more low = let left : 16 - k ≡ suc (16 - (k + 1)) = omega arith in
    ap (λ n. definition.reach_within n w s page write) left ∙ more (16 - (k + 1))

pub reach-end : (w : World) (s : Path) (page : ℕ) (write : Bool) (k : ℕ) →
    16 ≤ k → definition.reach_within (16 - k) w s page write ≡ definition.reach_within zero w s page write
reach-end w s page write k past = let none : 16 - k ≡ 0 = omega arith in ap (λ n. definition.reach_within n w s page write) none

pub ruleset hops = (reach-begin, reach-on, reach-end)
