-- Homes: a table of the key of the space with each birth number.
use Rattle.std.specs.Prelude.{ℕ, ◌==◌, List, Option, Some, None, slice_index_or, if◌then◌else◌}

-- what stands for no key
abbrev pub nowhere : ℕ
nowhere = 4294967295

-- the key of the space in which an object lies, as it is stored
abbrev pub home_word : ℕ → Option ℕ
home_word key = if key == nowhere then None else Some key

-- what a table tells of a birth number
unfoldable pub home_at : List ℕ → ℕ → Option ℕ
home_at homes n = home_word (slice_index_or homes n nowhere)
