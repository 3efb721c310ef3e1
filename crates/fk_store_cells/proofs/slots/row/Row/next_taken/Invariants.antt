use Rattle.std.proofs.Common.{◌≤◌, ℕ, IsSome}
use Rattle.fk_store_cells.specs.Slots.Cells.{cell_in}
use Rattle.fk_store_cells.proofs.slots.row.Row.next_taken.Given as goal

-- the first one isn't among those so far
abbrev pub invariant-loop-at : goal.invariant-loop-at
invariant-loop-at g l = (k : ℕ) → IsSome (cell_in l.self k) → l.from ≤ k → l.at ≤ k
