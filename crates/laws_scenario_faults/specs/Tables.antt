-- What stands at the keys of a table, whether it is what may stand there, and numbers and paths in their ranges.
use Rattle.std.specs.Prelude.{ℕ, ℤ, pos, negsuc, Bool, true, false, ◌&&◌, nat_le, List, [], ◌∷◌, map, Option, Some, None, is_some, unwrap_or, option_and_then}
use Rattle.std.specs.List.{list_all, slice_split}
use Rattle.toml.specs.Data.{Data, Items, no_items, item, Members, no_members, member, get_member, as_str, as_integer, as_bool, as_array, as_table}
use Rattle.fk_model.specs.Numbers.{plain_number_up_to}
use Rattle.fk_scenario.specs.Fields.Fields.{is_among}
use Rattle.fk_scenario.specs.Fields.Paths.{is_slash}

-- ---- entries

-- the values of an array, and the keys of a table with theirs
unfoldable pub items : Items → List Data
items no_items = []
items (item value rest) = value ∷ items rest

unfoldable pub members : Members → List (List ℕ × Data)
members no_members = []
members (member key value rest) = (key, value) ∷ members rest

-- the table that an entry is; one that is none has no keys
abbrev pub table_of : Data → Members
table_of value = unwrap_or (as_table value) no_members

-- ---- what may stand at keys

-- there are no keys but these
unfoldable pub has_only : List (List ℕ) → Members → Bool
has_only keys no_members = true
has_only keys (member key value rest) = is_among keys key && has_only keys rest

abbrev pub is_text : Data → Bool
is_text value = is_some (as_str value)

abbrev pub is_flag : Data → Bool
is_flag value = is_some (as_bool value)

abbrev pub is_integer : Data → Bool
is_integer value = is_some (as_integer value)

abbrev pub is_array : Data → Bool
is_array value = is_some (as_array value)

abbrev pub is_table : Data → Bool
is_table value = is_some (as_table value)

-- each value of an array is such a one
unfoldable pub each : (Data → Bool) → Items → Bool
each test no_items = true
each test (item value rest) = test value && each test rest

abbrev pub is_array_of : (Data → Bool) → Data → Bool
is_array_of test value = is_array value && each test (unwrap_or (as_array value) no_items)

-- such a value stands at a key
abbrev pub is_so : (Data → Bool) → Option Data → Bool
is_so test None = false
is_so test (Some value) = test value

abbrev pub has : (Data → Bool) → List ℕ → Members → Bool
has test key ms = is_so test (get_member key ms)

-- the same, or nothing stands there
abbrev pub is_so_if : (Data → Bool) → Option Data → Bool
is_so_if test None = true
is_so_if test (Some value) = test value

abbrev pub may_have : (Data → Bool) → List ℕ → Members → Bool
may_have test key ms = is_so_if test (get_member key ms)

-- ---- what stands there

abbrev pub text : List ℕ → Members → Option (List ℕ)
text key ms = option_and_then as_str (get_member key ms)

abbrev pub flag : List ℕ → Members → Option Bool
flag key ms = option_and_then as_bool (get_member key ms)

abbrev pub integer : List ℕ → Members → Option ℤ
integer key ms = option_and_then as_integer (get_member key ms)

abbrev pub array : List ℕ → Members → Option Items
array key ms = option_and_then as_array (get_member key ms)

abbrev pub table : List ℕ → Members → Option Members
table key ms = option_and_then as_table (get_member key ms)

-- the text that stands at a key, where one has to
abbrev pub text_at : List ℕ → Members → List ℕ
text_at key ms = unwrap_or (text key ms) []

-- the integers of an array
abbrev pub integer_of : Data → ℤ
integer_of value = unwrap_or (as_integer value) (pos 0)

abbrev pub integers : Items → List ℤ
integers ds = map integer_of (items ds)

abbrev pub integers_at : List ℕ → Members → List ℤ
integers_at key ms = integers (unwrap_or (array key ms) no_items)

-- the entries of a section
abbrev pub entries : List ℕ → Members → List Data
entries key ms = items (unwrap_or (array key ms) no_items)

-- ---- numbers

-- an integer lies between two numbers, both included; of one that isn't written nothing is asked
abbrev pub is_in : ℕ → ℕ → ℤ → Bool
is_in low high (pos n) = nat_le low n && nat_le n high
is_in low high (negsuc n) = false

abbrev pub is_in_if : ℕ → ℕ → Option ℤ → Bool
is_in_if low high None = true
is_in_if low high (Some z) = is_in low high z

abbrev pub number : ℤ → ℕ
number (pos n) = n
number (negsuc n) = 0

abbrev pub number_or : ℕ → Option ℤ → ℕ
number_or default None = default
number_or default (Some z) = number z

-- ---- paths

-- the texts between the slashes of a text that begins with one
abbrev pub pieces : List ℕ → List (List ℕ)
pieces [] = []
pieces (byte ∷ []) = []
pieces (byte ∷ more ∷ text) = slice_split is_slash (more ∷ text)

abbrev pub begins_with_slash : List ℕ → Bool
begins_with_slash [] = false
begins_with_slash (byte ∷ text) = is_slash byte

-- a number from 0 to 239 without leading zeros
abbrev pub is_slot : List ℕ → Bool
is_slot piece = is_some (plain_number_up_to 239 piece)

-- a slash, or a slash and a slot, repeated
abbrev pub is_path : List ℕ → Bool
is_path text = begins_with_slash text && list_all is_slot (pieces text)

abbrev pub slot : List ℕ → ℕ
slot piece = unwrap_or (plain_number_up_to 239 piece) 0

abbrev pub path : List ℕ → List ℕ
path text = map slot (pieces text)

-- the same of one that may be left out
abbrev pub is_path_if : Option (List ℕ) → Bool
is_path_if None = true
is_path_if (Some text) = is_path text

abbrev pub path_if : Option (List ℕ) → Option (List ℕ)
path_if None = None
path_if (Some text) = Some (path text)
