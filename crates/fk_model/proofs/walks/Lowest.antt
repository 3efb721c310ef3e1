-- The lowest slot that answers.
use Rattle.std.proofs.Common.{◌≡◌, ℕ, zero, suc, ◌<◌, ◌≤◌, Option, Some, None, ◌⊎◌, inl, inr, refl, arith}
use Rattle.std.proofs.lemmas.Bool.{cases_lt}
use Rattle.fk_model.specs.Objects.{or_else}
use Rattle.fk_model.specs.Searches.{lowest}

-- where one answers, it is one of them
pub lowest-found : {A : Type 0} (n : ℕ) (f : ℕ → Option A) (a : A) → lowest n f ≡ Some a → (k : ℕ) × (f k ≡ Some a)
unfolding lowest
lowest-found zero f a h = cc
lowest-found {A} (suc n) f a h = by (lowest n f) refl h (lowest-found n f a)
  where
    by : (o : Option A) → lowest n f ≡ o → or_else o (f n) ≡ Some a → (lowest n f ≡ Some a → (k : ℕ) × (f k ≡ Some a)) → (k : ℕ) × (f k ≡ Some a)
    by None e h below = (n, h)
    by (Some b) e h below = below (rw e h)

-- where none answers, none of those does
pub lowest_none : {A : Type 0} (n : ℕ) (f : ℕ → Option A) → lowest n f ≡ None → (k : ℕ) → k < n → f k ≡ None
unfolding lowest
lowest_none {A = A} zero f none k h = absurd (omega arith)
lowest_none {A = A} (suc n) f none k h = by (lowest n f) refl none (cases_lt k n) (lowest_none n f)
  where
    by : (o : Option A) → lowest n f ≡ o → or_else o (f n) ≡ None → (k < n) ⊎ (n ≤ k) → (lowest n f ≡ None → (k : ℕ) → k < n → f k ≡ None) → f k ≡ None
    by None e g (inl below) rest = rest e k below
    by None e g (inr above) rest = let same : k ≡ n = omega arith in rw same g
    by (Some a) e g cases rest = cc
