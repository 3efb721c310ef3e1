use Rattle.std.proofs.Common.{◌≡◌, ◌≤◌, ℕ, ◌+◌, ◌-◌, length}
use Rattle.fk_store_cells.specs.Keys.Tables.{place_at}
use Rattle.fk_store_cells.proofs.keys.keys.grow.Given as goal

-- no space has another place, and there are no more than birth numbers
abbrev pub invariant-loop-places : goal.invariant-loop-places
invariant-loop-places l = record {
  same : (s : ℕ) → place_at l.places.items s ≡ place_at l.initial.places.items s;
  few : length l.initial.places.items ≤ 4294967296 → length l.places.items ≤ 4294967296;
}

abbrev pub decreases-loop-places : goal.decreases-loop-places
decreases-loop-places l = l.space + 1 - length l.places.items
