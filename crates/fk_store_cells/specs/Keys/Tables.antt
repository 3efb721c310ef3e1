-- Tables: the keys and the marks of a space.
use Rattle.std.specs.Prelude.{◌≡◌, ◌≢◌, ℕ, ◌==◌, ◌<◌, ◌≤◌, Bool, true, false, List, [], map, length, Option, Some, None, IsSome, is_some, Box}
use Rattle.std.specs.Prelude.{if◌then◌else◌, slice_index_or}
use Rattle.std.specs.declared.alloc.Global.{Global}
use Rattle.slab.specs.Slab.{Slab, get}
use Rattle.fk_store_cells.specs.Slots.Cells.{cell_in}
use Rattle.fk_store_cells.specs.declared.keys.tables.Table.{Table}

-- what stands for no key, and for no table
abbrev pub nothing : ℕ
nothing = 4294967295

-- a key as it is stored
abbrev pub number_of : ℕ → Option ℕ
number_of n = if n == nothing then None else Some n

abbrev pub keyed : List ℕ → List (Option ℕ)
keyed keys = map number_of keys

-- the keys of a space, by slot; none where it has no table
abbrev pub keys_in : Option (Box Table Global) → List (Option ℕ)
keys_in None = []
keys_in (Some table) = keyed table.value.keys

-- the marks of a table that may not be made
abbrev pub marks_in : Option (Box Table Global) → List Bool
marks_in None = []
marks_in (Some table) = table.value.marks

-- a mark that is not there isn't set
abbrev pub marked_in : List Bool → ℕ → Bool
marked_in marks mark = slice_index_or marks mark false

-- the marks of the space with a birth number
abbrev pub mark_at : List (List Bool) → ℕ → ℕ → Bool
mark_at marks space mark = marked_in (slice_index_or marks space []) mark

-- the keys and the marks of all spaces, of their tables
abbrev pub all_keys : List (List (Option ℕ) × List Bool) → List (List (Option ℕ))
all_keys tables = map (λ (t : List (Option ℕ) × List Bool). t.0) tables

abbrev pub all_marks : List (List (Option ℕ) × List Bool) → List (List Bool)
all_marks tables = map (λ (t : List (Option ℕ) × List Bool). t.1) tables

-- a space without a table has no keys and no marks
abbrev pub table_of : List (List (Option ℕ) × List Bool) → ℕ → List (Option ℕ) × List Bool
table_of tables space = slice_index_or tables space ([], [])

abbrev pub key_at : List (List (Option ℕ) × List Bool) → ℕ → ℕ → Option ℕ
key_at tables space slot = cell_in (table_of tables space).0 slot

abbrev pub marked_at : List (List (Option ℕ) × List Bool) → ℕ → ℕ → Bool
marked_at tables space mark = marked_in (table_of tables space).1 mark

-- there are no more tables than birth numbers, and a space has no more than 256 slots
pub record AreTables (tables : List (List (Option ℕ) × List Bool)) : Type 0 where
  pub few : length tables ≤ 4294967296
  pub short : (space slot : ℕ) → IsSome (key_at tables space slot) → slot < 256

-- ---- where a space's table stands

-- what is seen of a table
abbrev pub pair_of : Table → List (Option ℕ) × List Bool
pair_of table = (keyed table.keys, table.marks)

abbrev pub pair_in : Option (Box Table Global) → List (Option ℕ) × List Bool
pair_in table = (keys_in table, marks_in table)

-- the place of the table of the space with a birth number
abbrev pub place_at : List ℕ → ℕ → ℕ
place_at places space = slice_index_or places space nothing

-- the tables of all spaces, by their places
abbrev pub shown : List ℕ → Slab (Box Table Global) → List (List (Option ℕ) × List Bool)
shown places tables = map (λ place. pair_in (get tables place)) places

-- each table that is placed is there, and is that of one space
pub record ArePlaced (places : List ℕ) (tables : Slab (Box Table Global)) : Type 0 where
  pub none : get tables nothing ≡ None
  pub there : (space : ℕ) → place_at places space ≢ nothing → IsSome (get tables (place_at places space))
  pub own : (s t : ℕ) → place_at places s ≢ nothing → place_at places s ≡ place_at places t → s ≡ t

pub record AreKept (places : List ℕ) (tables : Slab (Box Table Global)) : Type 0 where
  pub are : AreTables (shown places tables)
  pub placed : ArePlaced places tables

-- ---- changes of one table

-- a slot has another key, or none
pub record IsPut (slot : ℕ) (key : Option ℕ) (old now : List (Option ℕ) × List Bool) : Type 0 where
  pub keys : (k : ℕ) → cell_in now.0 k ≡ (if k == slot then key else cell_in old.0 k)
  pub marks : now.1 ≡ old.1

-- the key of a slot is that of another one, and the first has none
pub record IsMoved (from to : ℕ) (old now : List (Option ℕ) × List Bool) : Type 0 where
  pub keys : (k : ℕ) → cell_in now.0 k ≡ (if k == to then cell_in old.0 from else (if k == from then None else cell_in old.0 k))
  pub marks : now.1 ≡ old.1

-- a mark is set
pub record IsMarked (mark : ℕ) (old now : List (Option ℕ) × List Bool) : Type 0 where
  pub keys : now.0 ≡ old.0
  pub marks : (m : ℕ) → marked_in now.1 m ≡ (if m == mark then true else marked_in old.1 m)

-- the table at a place has changed so, and all others are as they were
pub record Alters (s t : Slab (Box Table Global)) (place : ℕ) (P : List (Option ℕ) × List Bool → List (Option ℕ) × List Bool → Type 0) : Type 0 where
  pub here : P (pair_in (get s place)) (pair_in (get t place))
  pub there : is_some (get t place) ≡ is_some (get s place)
  pub others : (p : ℕ) → p ≢ place → get t p ≡ get s p

-- a table with one key comes, at a place where there was none
pub record Adds (s t : Slab (Box Table Global)) (slot key place : ℕ) : Type 0 where
  pub low : place < nothing
  pub vacant : get s place ≡ None
  pub there : IsSome (get t place)
  pub keys : (k : ℕ) → cell_in (keys_in (get t place)) k ≡ (if k == slot then Some key else None)
  pub marks : (m : ℕ) → marked_in (marks_in (get t place)) m ≡ false
  pub others : (p : ℕ) → p ≢ place → get t p ≡ get s p
