-- Places that are away from a subtree: neither in it nor above it.
use Rattle.std.proofs.Common.{◌≡◌, ◌⊎◌, inl, inr, ℕ, zero, suc, Bool, true, false, is_some, [], ◌∷◌, ◌++◌, Option, Some, None, refl, sym, ap}
use Rattle.fk_model.specs.Places.{Path, strip, is_within}
use Rattle.fk_model.specs.World.{World}
use Rattle.fk_model.specs.Searches.{first_resident, leaf_from, leaf_by, leaf, depth}
use Rattle.fk_model.proofs.walks.PlaceLaws.{strip-append, strip_some}

-- ---- within

pub within-append : (r q : Path) → is_within r (q ++ r) ≡ true
within-append r q = rw (strip-append r q) refl

pub of_within : (r x : Path) → is_within r x ≡ true → (q : Path) × (x ≡ q ++ r)
of_within r x h = by (strip r x) refl h
  where
    by : (o : Option Path) → strip r x ≡ o → is_some o ≡ true → (q : Path) × (x ≡ q ++ r)
    by (Some q) e h = (q, strip_some r x q e)
    by None e h = cc

pub off_from : (b : Bool) → (b ≡ true → ⊥) → b ≡ false
off_from true h = absurd (h refl)
off_from false h = refl

append-one : (q : Path) (k : ℕ) (s : Path) → q ++ k ∷ s ≡ (q ++ k ∷ []) ++ s
append-one [] k s = refl
append-one (j ∷ q) k s = ap (λ (x : Path). j ∷ x) (append-one q k s)

module _ (nester : Path) (slot : ℕ) where
  abbrev pub root : Path
  root = slot ∷ nester

  pub record IsAway (s : Path) : Type 0 where
    pub below : is_within s root ≡ false
    pub outside : is_within root s ≡ false

  -- what lies in a place that isn't inside is inside only as the root
  pub inside_up : (k : ℕ) (s : Path) → is_within root (k ∷ s) ≡ true → (k ∷ s ≡ root) ⊎ (is_within root s ≡ true)
  inside_up k s h = by (of_within root (k ∷ s) h)
    where
      by : (q : Path) × (k ∷ s ≡ q ++ root) → (k ∷ s ≡ root) ⊎ (is_within root s ≡ true)
      by ([], e) = inl e
      by (j ∷ q, e) = inr (let same : s ≡ q ++ root = cc in rw same (within-append root q))

  -- what is inside stays so further down
  pub inside_down : (k : ℕ) (s : Path) → is_within root s ≡ true → is_within root (k ∷ s) ≡ true
  inside_down k s h = let q = of_within root s h in rw (q.1) (within-append root (k ∷ q.0))

  -- the space of what is outside is outside
  pub outside_up : (k : ℕ) (s : Path) → is_within root (k ∷ s) ≡ false → is_within root s ≡ false
  outside_up k s out = off_from _ (λ h. let on = inside_down k s h in cc)

  -- a place in one that is away is away
  pub away_down : (k : ℕ) (s : Path) → IsAway s → IsAway (k ∷ s)
  away_down k s away = record { below = off_from _ below; outside = off_from _ outside }
    where
      above : root ≡ k ∷ s → is_within s root ≡ true
      above e = rw e (within-append s (k ∷ []))

      below : is_within (k ∷ s) root ≡ true → ⊥
      below h =
          let q = of_within (k ∷ s) root h in
          let on : is_within s root ≡ true = rw (q.1, append-one q.0 k s) (within-append s (q.0 ++ k ∷ [])) in
          let off = away.below in cc

      outside : is_within root (k ∷ s) ≡ true → ⊥
      outside h = by (inside_up k s h)
        where
          by : (k ∷ s ≡ root) ⊎ (is_within root s ≡ true) → ⊥
          by (inl e) = let on = above (sym e) in let off = away.below in cc
          by (inr on) = let off = away.outside in cc

  pub away_not_nester : (s : Path) → IsAway s → s ≡ nester → ⊥
  away_not_nester s away e = let on : is_within s root ≡ true = rw e (within-append nester (slot ∷ [])) in let off = away.below in cc

  -- an object in a place that is away
  pub record IsAwayObject (y : Path) : Type 0 where
    pub key : ℕ
    pub space : Path
    pub is : y ≡ key ∷ space
    pub away : IsAway space

  pub object_out : (y : Path) → IsAwayObject y → is_within root y ≡ false
  object_out y its = rw its.is ((away_down its.key its.space its.away).outside)

  pub away_object : (k : ℕ) (s : Path) → IsAway s → IsAwayObject (k ∷ s)
  away_object k s away = record { key = k; space = s; is = refl; away = away }

  leaf_by-away : (n : ℕ) (w : World) (k : ℕ) (s : Path) → IsAway s → IsAwayObject (leaf_by n w (k ∷ s))
  unfolding leaf_by
  leaf_by-away zero w k s away = away_object k s away
  leaf_by-away (suc n) w k s away = by (first_resident w (k ∷ s)) (λ j. leaf_by-away n w j (k ∷ s) (away_down k s away))
    where
      by : (o : Option ℕ) → ((j : ℕ) → IsAwayObject (leaf_by n w (j ∷ k ∷ s))) → IsAwayObject (leaf_from (λ j. leaf_by n w (j ∷ k ∷ s)) (k ∷ s) o)
      by None rest = away_object k s away
      by (Some j) rest = rest j

  pub leaf-away : (w : World) (k : ℕ) (s : Path) → IsAway s → IsAwayObject (leaf w (k ∷ s))
  unfolding leaf
  leaf-away w k s away = leaf_by-away depth w k s away
