-- Slots one after the other.
use Rattle.std.proofs.Common.{◌≡◌, ℕ, zero, suc, ◌+◌, ◌-◌, ◌<◌, ◌≤◌, Bool, true, false, List, [], ◌++◌, refl, ap, ◌∙◌, arith}
use Rattle.fk_codec.specs.Show.Shown.{slot_if, used_slots_from}

pub same_slots : (f g : ℕ → Bool) (count first : ℕ) → ((k : ℕ) → k < first + count → f k ≡ g k) → used_slots_from f count first ≡ used_slots_from g count first
unfolding used_slots_from
same_slots f g zero first same = refl
same_slots f g (suc count) first same =
    ap (λ (b : Bool). slot_if b first ++ used_slots_from f count (first + 1)) (same first (omega arith))
    ∙ ap (λ (more : List ℕ). slot_if (g first) first ++ more) (same_slots f g count (first + 1) (λ k lt. same k (omega arith)))

pub next_slot : (used : ℕ → Bool) (slot : ℕ) →
    slot < 240 → used_slots_from used (240 - slot) slot ≡ slot_if (used slot) slot ++ used_slots_from used (240 - (slot + 1)) (slot + 1)
unfolding used_slots_from
next_slot used slot lt = let n : 240 - slot ≡ suc (240 - (slot + 1)) = omega arith in rw n refl

pub no_slot : (used : ℕ → Bool) (slot : ℕ) → 240 ≤ slot → used_slots_from used (240 - slot) slot ≡ []
unfolding used_slots_from
no_slot used slot le = let n : 240 - slot ≡ 0 = omega arith in rw n refl
