-- Cells: what stands in a slot of a space.
use Rattle.std.specs.Prelude.{◌≡◌, ◌⊎◌, ℕ, Bool, not, ◌||◌, ◌&&◌, ◌==◌, nat_lt, List, [], Option, None, length, slice_index_or}

-- a row has no room yet, or room for all slots
abbrev pub IsRow : {V : Type 0} → List (Option V) → Type 0
IsRow row = (length row ≡ 0) ⊎ (length row ≡ 256)

-- what is in a slot of a row
abbrev pub cell_in : {V : Type 0} → List (Option V) → ℕ → Option V
cell_in row slot = slice_index_or row slot None

-- the row of a space; one without room where the space has none
abbrev pub row_of : {V : Type 0} → List (List (Option V)) → ℕ → List (Option V)
row_of rows space = slice_index_or rows space []

-- what stands in a slot of a space
unfoldable pub cell : {V : Type 0} → List (List (Option V)) → ℕ → ℕ → Option V
cell rows space slot = cell_in (row_of rows space) slot

-- a slot of a space is another one, or comes after it
abbrev pub is_from : ℕ → ℕ → ℕ → ℕ → Bool
is_from space slot s k = nat_lt space s || (space == s && not (nat_lt k slot))

-- the space has room for all of its slots
unfoldable pub HasRoom : {V : Type 0} → List (List (Option V)) → ℕ → Type 0
HasRoom rows space = length (row_of rows space) ≡ 256
