use Rattle.std.proofs.Common.{◌≡◌, ℕ, List, Option, true, IsSome}
use Rattle.fk_store_cells.specs.Slots.Cells.{cell, is_from}
use Rattle.fk_store_cells.proofs.slots.rows.next_taken.Given as goal

-- a scan that began at one slot has come to another: the first one isn't among those between
pub record Passed {V : Type 0} (rows : List (List (Option V))) (space slot at from : ℕ) : Type 0 where
  pub later : is_from space slot at from ≡ true
  pub none : (s k : ℕ) → IsSome (cell rows s k) → is_from space slot s k ≡ true → is_from at from s k ≡ true

abbrev pub invariant-loop-at : goal.invariant-loop-at
invariant-loop-at g l = Passed l.rows.items l.space l.slot l.at l.from
