use Rattle.std.proofs.Common.{◌≡◌, ◌≢◌, ◌<◌, ℕ, length, get_or}
use Rattle.fk_store.proofs.holds.held.Held.place_of.Given as goal

-- it isn't among those so far
abbrev pub invariant-loop-at : goal.invariant-loop-at
invariant-loop-at l = (j : ℕ) → j < l.at → j < length l.self-inside.births.items → get_or l.self-inside.births.items j 0 ≢ l.space
