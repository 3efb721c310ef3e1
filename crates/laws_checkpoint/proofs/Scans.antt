-- Scans: the first taken slot from a number on, as a search finds it; and what is left behind it.
use Rattle.std.proofs.Common.{◌≡◌, ℕ, zero, suc, ◌+◌, ◌-◌, ◌≤◌, ◌<◌, Bool, cond, is_some, List, [], ◌∷◌, ◌++◌, filter, Option, Some, None, refl, sym, ap, arith}
use Rattle.std.proofs.Common.{◌∙◌, ◌⊎◌, inl, inr}
use Rattle.std.proofs.lemmas.Bool.{cases_lt}
use Rattle.fk_model.specs.Objects.{or_else}
use Rattle.fk_model.specs.Searches.{lowest, slots}

-- the numbers from one on, so many
unfoldable pub rising : ℕ → ℕ → List ℕ
rising zero k = []
rising (suc n) k = k ∷ rising n (suc k)

rising_more : (n k : ℕ) → rising n k ++ (k + n) ∷ [] ≡ rising (suc n) k
unfolding rising
rising_more zero k = ap (λ j. j ∷ []) (omega arith)
rising_more (suc n) k =
    let rest = rising_more n (suc k) in
    let sum : k + suc n ≡ suc k + n = omega arith in
    ap (λ j. k ∷ (rising n (suc k) ++ j ∷ [])) sum ∙ ap (λ ks. k ∷ ks) rest

pub slots_rise : (n : ℕ) → slots n ≡ rising n 0
unfolding slots rising
slots_rise zero = refl
slots_rise (suc n) =
    let sum : n ≡ 0 + n = omega arith in
    ap (λ ks. ks ++ n ∷ []) (slots_rise n) ∙ (ap (λ j. rising n 0 ++ j ∷ []) sum ∙ rising_more n 0)

module _ {A : Type 0} where
  lowest-none : (n : ℕ) (f : ℕ → Option A) → ((k : ℕ) → k < n → f k ≡ None) → lowest n f ≡ None
  unfolding lowest
  lowest-none zero f none = refl
  lowest-none (suc n) f none = rw (lowest-none n f (λ k below. none k (omega arith)), none n (omega arith)) refl

  lowest-at : (n : ℕ) (f : ℕ → Option A) (k : ℕ) (a : A) → k < n → f k ≡ Some a → ((j : ℕ) → j < k → f j ≡ None) → lowest n f ≡ Some a
  unfolding lowest
  lowest-at zero f k a below there none = absurd (omega arith)
  lowest-at (suc n) f k a below there none = by (cases_lt k n) (λ less. lowest-at n f k a less there none)
    where
      by : (k < n) ⊎ (n ≤ k) → (k < n → lowest n f ≡ Some a) → or_else (lowest n f) (f n) ≡ Some a
      by (inl less) deeper = rw (deeper less) refl
      by (inr most) deeper = let is : k ≡ n = omega arith in rw (lowest-none n f (λ j less. none j (omega arith)), ← is) there

module _ {A : Type 0} where
  -- where nobody stands from one number on to another, or who stands first, and who behind
  pub data Scan (there : ℕ → Option A) (last k : ℕ) : Type 0 where
    Nobody : ((j : ℕ) → k ≤ j → j < last → there j ≡ None) → filter (λ j. is_some (there j)) (rising (last - k) k) ≡ [] → Scan there last k
    First : (j : ℕ) (a : A) → k ≤ j → j < last → there j ≡ Some a → ((i : ℕ) → k ≤ i → i < j → there i ≡ None) →
        filter (λ j. is_some (there j)) (rising (last - k) k) ≡ j ∷ filter (λ j. is_some (there j)) (rising (last - (j + 1)) (j + 1)) → Scan there last k

  module _ (there : ℕ → Option A) (last : ℕ) where
    abbrev taken : ℕ → Bool
    taken j = is_some (there j)

    scan_by : (n k : ℕ) → k + n ≡ last → Scan there last k
    unfolding rising
    scan_by zero k sum = Nobody (λ j low high. absurd (omega (arith, sum, low, high))) (ap (λ m. filter taken (rising m k)) (none))
      where
        none : last - k ≡ 0
        none = omega (arith, sum)
    scan_by (suc n) k sum = by (there k) refl (scan_by n (suc k) (omega (arith, sum)))
      where
        more : last - k ≡ suc n
        more = omega (arith, sum)

        behind : last - (k + 1) ≡ n
        behind = omega (arith, sum)

        one : suc k ≡ k + 1
        one = omega arith

        listed : (o : Option A) → there k ≡ o → filter taken (rising (last - k) k)
            ≡ cond (is_some o) (k ∷ filter taken (rising n (suc k))) (filter taken (rising n (suc k)))
        listed o e = ap (λ m. filter taken (rising m k)) more
            ∙ ap (λ (o : Option A). cond (is_some o) (k ∷ filter taken (rising n (suc k))) (filter taken (rising n (suc k)))) e

        rest_is : filter taken (rising n (suc k)) ≡ filter taken (rising (last - (k + 1)) (k + 1))
        rest_is = ap (λ m. filter taken (rising m (suc k))) (sym behind) ∙ ap (λ j. filter taken (rising (last - (k + 1)) j)) one

        shorter : last - suc k ≡ n
        shorter = omega (arith, sum)

        by : (o : Option A) → there k ≡ o → Scan there last (suc k) → Scan there last k
        by (Some a) e rest = First k a (omega arith) (omega (arith, sum)) e (λ i low high. absurd (omega (arith, low, high))) (listed (Some a) e
            ∙ ap (λ ks. k ∷ ks) rest_is)
        by None e (Nobody none is) = Nobody (λ j low high. at j low high (cases_lt k j)) (listed None e
            ∙ (ap (λ m. filter taken (rising m (suc k))) (sym shorter) ∙ is))
          where
            at : (j : ℕ) → k ≤ j → j < last → (k < j) ⊎ (j ≤ k) → there j ≡ None
            at j low high (inl less) = none j (omega (arith, less)) high
            at j low high (inr most) = let same : j ≡ k = omega (arith, low, most) in ap there same ∙ e
        by None e (First j a low high there_is before is) =
            First j a (omega (arith, low)) high there_is (λ i up down. at i up down (cases_lt k i)) (listed None e
            ∙ (ap (λ m. filter taken (rising m (suc k))) (sym shorter) ∙ is))
          where
            at : (i : ℕ) → k ≤ i → i < j → (k < i) ⊎ (i ≤ k) → there i ≡ None
            at i up down (inl less) = before i (omega (arith, less)) down
            at i up down (inr most) = let same : i ≡ k = omega (arith, up, most) in ap there same ∙ e

    pub scan : (k : ℕ) → k ≤ last → Scan there last k
    scan k low = scan_by (last - k) k (omega (arith, low))

    -- a search with a test that lets pass all from a number on
    module _ {B : Type 0} (f : ℕ → Option B) (k : ℕ) (below : (j : ℕ) → j < k → f j ≡ None) where
      pub lowest_none : ((j : ℕ) → k ≤ j → j < last → f j ≡ None) → lowest last f ≡ None
      lowest_none none = lowest-none last f (λ j high. at j high (cases_lt j k))
        where
          at : (j : ℕ) → j < last → (j < k) ⊎ (k ≤ j) → f j ≡ None
          at j high (inl less) = below j less
          at j high (inr most) = none j most high

      pub lowest_first : (j : ℕ) (b : B) → k ≤ j → j < last → f j ≡ Some b → ((i : ℕ) → k ≤ i → i < j → f i ≡ None) → lowest last f ≡ Some b
      lowest_first j b low high is before = lowest-at last f j b high is (λ i less. at i less (cases_lt i k))
        where
          at : (i : ℕ) → i < j → (i < k) ⊎ (k ≤ i) → f i ≡ None
          at i less (inl down) = below i down
          at i less (inr up) = before i up less
