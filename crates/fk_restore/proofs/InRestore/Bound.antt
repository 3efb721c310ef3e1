-- The lowest slot that is bound to another, slot by slot.
use Rattle.std.proofs.Common.{◌≡◌, ℕ, zero, suc, ◌+◌, ◌-◌, ◌<◌, ◌≤◌, Bool, true, false, cond, List, refl, sym, ap, ◌∙◌, arith}
use Rattle.laws_restore.specs.Restore.Rooms.{Room}
use Rattle.laws_restore.specs.Restore.Restore.{lowest_bound}
use Rattle.fk_restore.specs.Restore.Bounds.{bound_here}

module _ (bind : ℕ → ℕ) (rooms : List Room) (j : ℕ) where
  pub not_here : (n i : ℕ) (t : Bool) → 0 < n → t ≡ bound_here bind rooms j i → t ≡ false
      → lowest_bound bind rooms j (n - 1) (i + 1) ≡ lowest_bound bind rooms j n i
  not_here zero i t lt is off = absurd (omega (arith, lt))
  not_here (suc n) i t lt is off =
      let one : suc n - 1 ≡ n = omega arith in
      let next : i + 1 ≡ suc i = omega arith in
      (λ k. lowest_bound bind rooms j (one k) (next k)) ∙ sym (ap (λ t. cond t i (lowest_bound bind rooms j n (suc i))) (sym is ∙ off))

  pub is_here : (n i : ℕ) (t : Bool) → 0 < n → t ≡ bound_here bind rooms j i → t ≡ true → i ≡ lowest_bound bind rooms j n i
  is_here zero i t lt is on = absurd (omega (arith, lt))
  is_here (suc n) i t lt is on = sym (ap (λ t. cond t i (lowest_bound bind rooms j n (suc i))) (sym is ∙ on))

  pub none_left : (n i : ℕ) → n ≤ 0 → i ≡ lowest_bound bind rooms j n i
  none_left zero i le = refl
  none_left (suc n) i le = absurd (omega (arith, le))
