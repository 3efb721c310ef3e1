use Rattle.std.proofs.Common.{◌≤◌, ℕ, IsSome}
use Rattle.fk_store_cells.specs.Slots.Cells.{cell_in}
use Rattle.fk_store_cells.specs.Keys.Tables.{keyed}
use Rattle.fk_store_cells.proofs.keys.tables.next_key.Given as goal

-- the first one isn't among those so far
abbrev pub invariant-loop-at : goal.invariant-loop-at
invariant-loop-at l = (k : ℕ) → IsSome (cell_in (keyed l.keys) k) → l.from ≤ k → l.at ≤ k
