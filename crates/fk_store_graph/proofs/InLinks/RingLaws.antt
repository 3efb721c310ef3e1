-- RingLaws: a pointer leaves its ring, or joins one.
use Rattle.std.proofs.Common.{◌≡◌, ap, ℕ, zero, suc, ◌+◌, ◌<◌, ◌≤◌, Bool, true, false, Option, Some, None, refl, sym, subst, ◌∙◌, arith}
use Rattle.std.proofs.lemmas.Bool.Decides.{nat_tests}
use Rattle.fk_store_graph.specs.Links.Rings.{put_at, IsRings}

-- rings are rings of all functions that agree
pub IsRings-along : {K : Type 0} (is_head : ℕ → Bool) (next prev next2 prev2 : ℕ → ℕ) (owner owner2 : ℕ → Option K) →
    ((m : ℕ) → next2 m ≡ next m) → ((m : ℕ) → prev2 m ≡ prev m) → ((m : ℕ) → owner2 m ≡ owner m) →
    IsRings is_head next prev owner → IsRings is_head next2 prev2 owner2
IsRings-along {K = K} is_head next prev next2 prev2 owner owner2 a b c rings =
    let p : next ≡ next2 = λ i m. sym (a m) i in
    let q : prev ≡ prev2 = λ i m. sym (b m) i in
    let r : owner ≡ owner2 = λ i m. sym (c m) i in
    subst (λ (f : ℕ → ℕ). IsRings is_head f prev2 owner2) p
    (subst (λ (f : ℕ → ℕ). IsRings is_head next f owner2) q (subst (λ (f : ℕ → Option K). IsRings is_head next prev f) r rings))

module _ {K : Type 0} (is_head : ℕ → Bool) (next prev : ℕ → ℕ) (owner : ℕ → Option K) (rings : IsRings is_head next prev owner) where
  -- a pointer that leads somewhere is taken out of its ring
  leaves : (n : ℕ) (w : K) → is_head n ≡ false → owner n ≡ Some w →
      IsRings is_head (put_at (put_at next (prev n) (next n)) n n) (put_at (put_at prev (next n) (prev n)) n n) (put_at owner n None)
  leaves n w field leads =
      let falls_here : rings.rank (next n) < rings.rank n = rings.falls n w leads field in
      let forth_here = rings.forth n in
      let back_here = rings.back n in
      record {
        back = λ m. let a = rings.back m in let b = rings.forth m in grind (arith, nat_tests);
        forth = λ m. let a = rings.back m in let b = rings.forth m in grind (arith, nat_tests);
        same = λ m. let a = rings.same m in let b = rings.same (prev n) in let c = rings.same n in let d = rings.back m in grind (arith, nat_tests);
        alone = λ m none. let a = rings.alone m in let b = rings.same (prev n) in grind (arith, nat_tests);
        rank = rings.rank;
        falls = λ m v there low. let a = rings.falls m v in let b = rings.same (prev n) in grind (arith, nat_tests);
      }

  -- a pointer that leads nowhere is put behind a head
  pub joined : (n h : ℕ) (w : K) → is_head n ≡ false → owner n ≡ None → is_head h ≡ true → owner h ≡ Some w →
      IsRings is_head (put_at (put_at next h n) n (next h)) (put_at (put_at prev (next h) n) n h) (put_at owner n (Some w))
  joined n h w field none head leads =
      let apart : next n ≡ n = rings.alone n none in
      let apart2 = rings.back n in
      let there = rings.same h in
      let back_there = rings.back h in
      record {
        back = λ m. let a = rings.back m in let b = rings.forth m in grind (arith, nat_tests);
        forth = λ m. let a = rings.back m in let b = rings.forth m in grind (arith, nat_tests);
        same = λ m. let a = rings.same m in let d = rings.back m in grind (arith, nat_tests);
        alone = λ m none. let a = rings.alone m in grind (arith, nat_tests);
        rank = put_at rings.rank n (rings.rank (next h) + 1);
        falls = λ m v there low. let a = rings.falls m v in let d = rings.back m in grind (arith, nat_tests);
      }

  -- a pointer that is alone leads nowhere
  pub is_alone : (n : ℕ) → is_head n ≡ false → next n ≡ n → owner n ≡ None
  is_alone n field apart = by (owner n) refl
    where
      by : (o : Option K) → owner n ≡ o → o ≡ None
      by None e = refl
      by (Some w) e = let a = rings.falls n w e field in let same = ap rings.rank apart in absurd (omega (arith, a, same))

  -- a pointer that led nowhere, or somewhere, leads nowhere
  pub unlinked : (n : ℕ) → is_head n ≡ false →
      IsRings is_head (put_at (put_at next (prev n) (next n)) n n) (put_at (put_at prev (next n) (prev n)) n n) (put_at owner n None)
  unlinked n field = by (owner n) refl
    where
      by : (o : Option K) → owner n ≡ o →
          IsRings is_head (put_at (put_at next (prev n) (next n)) n n) (put_at (put_at prev (next n) (prev n)) n n) (put_at owner n None)
      by (Some w) e = leaves n w field e
      by None e =
          let apart = rings.alone n e in
          let back = rings.back n in
          let before : prev n ≡ n = cc in
          IsRings-along is_head next prev _ _ owner _ (λ m. grind (arith, nat_tests)) (λ m. grind (arith, nat_tests)) (λ m. grind (arith, nat_tests)) rings

  -- where a head is alone, and is the one head of its object, no pointer leads to the object
  module _ (h : ℕ) (w : K) (one : (m : ℕ) → is_head m ≡ true → owner m ≡ Some w → m ≡ h) where
    up_to : next h ≡ h → (k n : ℕ) → rings.rank n ≤ k → is_head n ≡ false → owner n ≡ Some w → is_head h ≡ true → ⊥
    up_to apart zero n low field leads head = by (is_head (next n)) refl
      where
        by : (b : Bool) → is_head (next n) ≡ b → ⊥
        by true is = let last = one (next n) is (rings.same n ∙ leads) in let a = rings.back n in let b = rings.back h in let same : n ≡ h = cc in absurd (cc)
        by false is = let a = rings.falls n w leads field in absurd (omega arith)
    up_to apart (suc k) n low field leads head = by (is_head (next n)) refl (up_to apart k (next n))
      where
        by : (b : Bool) → is_head (next n) ≡ b → (rings.rank (next n) ≤ k → is_head (next n) ≡ false → owner (next n) ≡ Some w → is_head h ≡ true → ⊥) → ⊥
        by true is ih = let last = one (next n) is (rings.same n ∙ leads) in let a = rings.back n in
            let b = rings.back h in let same : n ≡ h = cc in absurd (cc)
        by false is ih = let a = rings.falls n w leads field in ih (omega arith) is (rings.same n ∙ leads) head

    pub unled : next h ≡ h → is_head h ≡ true → (n : ℕ) → is_head n ≡ false → owner n ≡ Some w → ⊥
    unled apart head n field leads = up_to apart (rings.rank n) n (omega arith) field leads head

    -- the node behind a head that isn't alone is a pointer
    pub behind : (next h ≡ h → ⊥) → owner h ≡ Some w → (is_head (next h) ≡ false) × (owner (next h) ≡ Some w)
    behind more here = (by (is_head (next h)) refl, rings.same h ∙ here)
      where
        by : (b : Bool) → is_head (next h) ≡ b → b ≡ false
        by false is = refl
        by true is = absurd (more (one (next h) is (rings.same h ∙ here)))
