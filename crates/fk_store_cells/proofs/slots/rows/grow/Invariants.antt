use Rattle.std.proofs.Common.{◌≡◌, ◌≤◌, ℕ, ◌+◌, ◌-◌, length}
use Rattle.fk_store_cells.specs.Slots.Cells.{cell}
use Rattle.fk_store_cells.proofs.slots.rows.grow.Given as goal

-- nothing stands elsewhere, and there are no more rows than birth numbers
abbrev pub invariant-loop-alloc : goal.invariant-loop-alloc
invariant-loop-alloc g l = record {
  same : (s k : ℕ) → cell l.rows.items s k ≡ cell l.initial.rows.items s k;
  few : length l.initial.rows.items ≤ 4294967296 → length l.rows.items ≤ 4294967296;
}

abbrev pub decreases-loop-alloc : goal.decreases-loop-alloc
decreases-loop-alloc g l = l.space + 1 - length l.rows.items
