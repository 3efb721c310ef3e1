-- An object with nothing beneath it.
use Rattle.std.proofs.Common.{◌≡◌, ℕ, zero, suc, ◌+◌, ◌<◌, ◌≤◌, false, IsSome, [], ◌∷◌, length, Option, Some, None, option_map, refl, arith}
use Rattle.fk_model.specs.declared.limits.TheConstants.{SLOTS}
use Rattle.fk_model.specs.Places.{Path}
use Rattle.fk_model.specs.Objects.{Body}
use Rattle.fk_model.specs.World.{World}
use Rattle.fk_model.specs.Searches.{lowest, has_residents, depth, first_resident, leaf_from, leaf_by, leaf}
use Rattle.fk_model.specs.Valid.{IsConsistent, IsRooted}
use Rattle.laws_moves.proofs.InMachine.safety.Safe.{IsAlone}
use Rattle.fk_model.proofs.walks.WalkLaws.{none_from, short}
use Rattle.fk_model.proofs.walks.Lowest.{lowest_none}

-- ---- what has nothing beneath it

empty_all : (w : World) → IsRooted w → (x : Path) → ((k : ℕ) → k < SLOTS → w.body (k ∷ x) ≡ None) → (k : ℕ) → w.body (k ∷ x) ≡ None
empty_all w rooted x empty k = by (w.body (k ∷ x)) refl
  where
    by : (o : Option Body) → w.body (k ∷ x) ≡ o → w.body (k ∷ x) ≡ None
    by None e = e
    by (Some b) e = empty k (rooted.slots k x (rw e refl))

-- an object without residents
pub alone : (w : World) → IsRooted w → (k : ℕ) (s : Path) → has_residents w (k ∷ s) ≡ false → IsAlone w (k ∷ s)
alone w rooted k s h = record {
  inner = λ e. cc;
  empty = empty_all w rooted (k ∷ s) (lowest_none SLOTS (λ j. w.body (j ∷ k ∷ s)) (none_from (lowest SLOTS (λ j. w.body (j ∷ k ∷ s))) h));
}

unmapped : {A B : Type 0} (f : A → B) (o : Option A) → option_map f o ≡ None → o ≡ None
unmapped f None h = refl
unmapped f (Some a) h = cc

leaf_by-empty : (n : ℕ) (w : World) →
    IsRooted w → (x : Path) → ((q : Path) → IsSome (w.body q) → length q ≤ length x + n) → (k : ℕ) → w.body (k ∷ leaf_by n w x) ≡ None
unfolding leaf_by
leaf_by-empty zero w rooted x few k = by (w.body (k ∷ x)) refl
  where
    by : (o : Option Body) → w.body (k ∷ x) ≡ o → w.body (k ∷ x) ≡ None
    by None e = e
    by (Some b) e = absurd (omega (arith, few (k ∷ x) (rw e refl)))
leaf_by-empty (suc n) w rooted x few k = by (first_resident w x) refl (λ j. leaf_by-empty n w rooted (j ∷ x) (λ q live. omega (arith, few q live)) k)
  where
    by : (o : Option ℕ) →
        first_resident w x ≡ o → ((j : ℕ) → w.body (k ∷ leaf_by n w (j ∷ x)) ≡ None) → w.body (k ∷ leaf_from (λ j. leaf_by n w (j ∷ x)) x o) ≡ None
    by None e rest =
        empty_all w rooted x (λ j below. unmapped (λ b. j) (w.body (j ∷ x)) (lowest_none SLOTS (λ k. option_map (λ b. k) (w.body (k ∷ x))) e j below)) k
    by (Some j) e rest = rest j

leaf_by-inner : (n : ℕ) (w : World) (k : ℕ) (s : Path) → leaf_by n w (k ∷ s) ≡ [] → ⊥
unfolding leaf_by
leaf_by-inner zero w k s h = cc
leaf_by-inner (suc n) w k s h = by (first_resident w (k ∷ s)) h (λ j. leaf_by-inner n w j (k ∷ s))
  where
    by : (o : Option ℕ) → leaf_from (λ j. leaf_by n w (j ∷ k ∷ s)) (k ∷ s) o ≡ [] → ((j : ℕ) → leaf_by n w (j ∷ k ∷ s) ≡ [] → ⊥) → ⊥
    by None g rest = cc
    by (Some j) g rest = rest j g

pub leaf-alone : (w : World) → IsConsistent w → IsRooted w → w.next ≤ depth → (k : ℕ) (s : Path) → IsAlone w (leaf w (k ∷ s))
unfolding leaf
leaf-alone w valid rooted few k s = record {
  inner = leaf_by-inner depth w k s;
  empty = leaf_by-empty depth w rooted (k ∷ s) (λ q live. let long = short w valid q live in omega arith);
}
