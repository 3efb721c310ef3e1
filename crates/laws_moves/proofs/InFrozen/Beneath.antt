-- Every object is among those beneath each space above it.
use Rattle.std.proofs.Common.{◌≡◌, ℕ, zero, suc, ◌+◌, ◌<◌, ◌≤◌, IsSome, is_some, [], ◌∷◌, ◌++◌, length, ◌⊎◌, inl, inr, refl, ap, arith}
use Rattle.std.proofs.lemmas.Bool.{cases_lt}
use Rattle.fk_model.specs.declared.limits.TheConstants.{SLOTS}
use Rattle.fk_model.specs.Places.{Path}
use Rattle.fk_model.specs.World.{World}
use Rattle.fk_model.specs.Searches.{slots, residents, beneath_by, beneath, depth}
use Rattle.fk_model.specs.Valid.{IsConsistent, IsRooted}
use Rattle.fk_model.proofs.walks.Members.{IsIn, in_left, in_right, in_filter, in_flat_map, of_flat_map}
use Rattle.fk_model.proofs.walks.WalkLaws.{live_above, short}

in_slots : (n k : ℕ) → k < n → IsIn k (slots n)
unfolding slots
in_slots zero k h = absurd (omega arith)
in_slots (suc n) k h = by (cases_lt k n) (in_slots n k)
  where
    by : (k < n) ⊎ (n ≤ k) → (k < n → IsIn k (slots n)) → IsIn k (slots n ++ n ∷ [])
    by (inl g) rest = in_left k (slots n) (n ∷ []) (rest g)
    by (inr g) rest = in_right k (slots n) (n ∷ []) (inl (omega arith))

in_residents : (w : World) → IsRooted w → (k : ℕ) (s : Path) → IsSome (w.body (k ∷ s)) → IsIn k (residents w s)
unfolding residents
in_residents w rooted k s live = in_filter (λ k. is_some (w.body (k ∷ s))) k (slots SLOTS) (in_slots SLOTS k (rooted.slots k s live)) live

in_first : (n : ℕ) (w : World) → IsRooted w → (k : ℕ) (s : Path) → 0 < n → IsSome (w.body (k ∷ s)) → IsIn (k ∷ s) (beneath_by n w s)
unfolding beneath_by
in_first zero w rooted k s h live = absurd (omega arith)
in_first (suc n) w rooted k s h live = in_flat_map (λ k. (k ∷ s) ∷ beneath_by n w (k ∷ s)) k (k ∷ s) (residents w s) (in_residents w rooted k s live) (inl refl)

-- with an object the walk comes to what lies in it
in_next : (n : ℕ) (w : World) →
    IsRooted w → (s y : Path) (k : ℕ) → IsIn y (beneath_by n w s) → length y < n + length s → IsSome (w.body (k ∷ y)) → IsIn (k ∷ y) (beneath_by n w s)
unfolding beneath_by
in_next zero w rooted s y k h few live = absurd h
in_next (suc n) w rooted s y k h few live =
    let found = of_flat_map (λ j. (j ∷ s) ∷ beneath_by n w (j ∷ s)) y (residents w s) h in
    in_flat_map (λ j. (j ∷ s) ∷ beneath_by n w (j ∷ s))
    found.0 (k ∷ y) (residents w s) found.1 (inr (by found.0 found.2 (λ j g. in_next n w rooted (j ∷ s) y k g (omega arith) live)))
  where
    by : (j : ℕ) → (j ∷ s ≡ y) ⊎ IsIn y (beneath_by n w (j ∷ s)) →
        ((j : ℕ) → IsIn y (beneath_by n w (j ∷ s)) → IsIn (k ∷ y) (beneath_by n w (j ∷ s))) → IsIn (k ∷ y) (beneath_by n w (j ∷ s))
    by j (inl e) rest = rw (e) (in_first n w rooted k y (omega (arith, ap length e)) live)
    by j (inr g) rest = rest j g

pub in_beneath : (w : World) → IsConsistent w → IsRooted w → w.next ≤ depth → (q a : Path) (k : ℕ) →
    IsSome (w.body (k ∷ (q ++ a))) → IsIn (k ∷ (q ++ a)) (beneath w a)
unfolding beneath
in_beneath w valid rooted few [] a k live = in_first depth w rooted k a (omega arith) live
in_beneath w valid rooted few (j ∷ q) a k live =
    let long = short w valid (k ∷ (j ∷ (q ++ a))) live in
    in_next depth w rooted a (j ∷ (q ++ a)) k (in_beneath w valid rooted few q a j (live_above w valid k (j ∷ (q ++ a)) live)) (omega (arith, long, few)) live
