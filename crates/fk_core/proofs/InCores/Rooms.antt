-- Room that is cleared.
use Rattle.std.proofs.Common.{◌≡◌, ◌∙◌, ℕ, List, ◌++◌, ◌-◌, ◌+◌, ◌≤◌, drop, replicate, ap, subst, sym, arith, refl}
use Rattle.std.proofs.lemmas.List.{replicate-append-replicate}
use Rattle.fk_model.specs.declared.moves.Said.{Said}
use Rattle.fk_plans.specs.Plans.Hearers.{IsPadded}
use Rattle.fk_core.specs.Rounds.Rooms.{IsRoom}

-- zeros over the first words, and zeros behind them
pub cleared : (count : ℕ) (words : List ℕ) → count ≤ 64 → drop count words ≡ replicate (64 - count) 0 → replicate count 0 ++ drop count words ≡ replicate 64 0
cleared count words few zeros =
    ap (λ rest. replicate count 0 ++ rest) zeros ∙ (replicate-append-replicate count (64 - count) 0 ∙ ap (λ n. replicate n 0) (whole count few))
  where
    whole : (n : ℕ) → n ≤ 64 → n + (64 - n) ≡ 64
    whole n few = omega (arith, few)

-- zeros have zeros past any length
pub padded : (said : Said) → IsRoom said → IsPadded said
padded said zeros = subst IsPadded (sym zeros) refl
