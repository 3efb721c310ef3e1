use Rattle.std.proofs.Common.{◌≡◌, ℕ, List, Option, None, length}
use Rattle.fk_store_cells.specs.Slots.Cells.{cell_in}
use Rattle.fk_store_cells.proofs.slots.row.all_empty.Given as goal

-- so many cells, with nothing in them
pub record Empty {V : Type 0} (cells : List (Option V)) (count : ℕ) : Type 0 where
  pub long : length cells ≡ count
  pub none : (k : ℕ) → cell_in cells k ≡ None

abbrev pub invariant-loop : goal.invariant-loop
invariant-loop g l = Empty l.cells.items l.counter
