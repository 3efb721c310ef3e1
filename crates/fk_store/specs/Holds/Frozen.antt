-- Frozen: marks by birth number. The root has none, and what isn't told is marked.
use Rattle.std.specs.Prelude.{ℕ, ◌-◌, ◌==◌, zero, suc, Bool, true, false, List, [], ◌∷◌, slice_index_or, if◌then◌else◌}

-- the mark of a birth number
unfoldable pub mark_at : List Bool → ℕ → Bool
mark_at marks n = if n == 0 then false else slice_index_or marks (n - 1) true

-- how many are marked, and how many aren't
unfoldable pub marked : List Bool → ℕ
marked [] = 0
marked (true ∷ marks) = suc (marked marks)
marked (false ∷ marks) = marked marks

-- how many aren't marked
unfoldable pub unmarked : List Bool → ℕ
unmarked [] = 0
unmarked (true ∷ marks) = unmarked marks
unmarked (false ∷ marks) = suc (unmarked marks)
