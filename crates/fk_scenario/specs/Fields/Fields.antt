-- The fields of a table: their types and ranges.
use Rattle.std.specs.Prelude.{ℕ, ℤ, pos, negsuc, Bool, ◌&&◌, nat_le, List, [], ◌∷◌, ◌++◌, Option, Some, None, Result, Ok, Err, if◌then◌else◌}
use Rattle.std.specs.List.{list_any}
use Rattle.std.specs.Str.{bytes_eq}
use Rattle.toml.specs.Data.{Data, Items, no_items, item, Members, no_members, member, get_member, as_str, as_integer, as_bool, as_array, as_table}
use Rattle.fk_scenario.specs.Fields.Gives.{◌>>=◌, or_rule}

-- a key is one of these
abbrev pub is_among : List (List ℕ) → List ℕ → Bool
is_among keys key = list_any (bytes_eq key) keys

-- each key of a table is known, else rule 2
unfoldable pub known : List (List ℕ) → Members → Result (Unit {0}) ℕ
known keys no_members = Ok tt
known keys (member key value rest) = if is_among keys key then known keys rest else Err 2

-- what a key has, if it is there; a wrong type is rule 2
abbrev pub typed : {A : Type 0} → (Data → Option A) → Option Data → Result (Option A) ℕ
typed read None = Ok None
typed read (Some value) = or_rule 2 (read value) >>= λ x. Ok (Some x)

-- the text, the flag, the integer, the array and the table at a key
unfoldable pub text_in : List ℕ → Members → Result (Option (List ℕ)) ℕ
text_in key ms = typed as_str (get_member key ms)

-- a key that is a truth value, if it is there
unfoldable pub flag_in : List ℕ → Members → Result (Option Bool) ℕ
flag_in key ms = typed as_bool (get_member key ms)

-- a key that is a number, if it is there
unfoldable pub integer_in : List ℕ → Members → Result (Option ℤ) ℕ
integer_in key ms = typed as_integer (get_member key ms)

-- a key that is an array, if it is there
unfoldable pub array_in : List ℕ → Members → Result (Option Items) ℕ
array_in key ms = typed as_array (get_member key ms)

-- a key that is a table, if it is there
unfoldable pub table_in : List ℕ → Members → Result (Option Members) ℕ
table_in key ms = typed as_table (get_member key ms)

-- the text at a key that has to be there, else rule 2 too
unfoldable pub needed_text : List ℕ → Members → Result (List ℕ) ℕ
needed_text key ms = text_in key ms >>= or_rule 2

-- the same for an integer
unfoldable pub needed_integer : List ℕ → Members → Result ℤ ℕ
needed_integer key ms = integer_in key ms >>= or_rule 2

-- an array of integers and nothing else, else rule 2
unfoldable pub integers_from : List ℤ → Items → Result (List ℤ) ℕ
integers_from done no_items = Ok done
integers_from done (item value rest) = or_rule 2 (as_integer value) >>= λ z. integers_from (done ++ z ∷ []) rest

-- no array is one of no integers
abbrev pub integers_of : Option Items → Result (List ℤ) ℕ
integers_of None = Ok []
integers_of (Some ds) = integers_from [] ds

-- the integers in the array at a key
unfoldable pub integers_in : List ℕ → Members → Result (List ℤ) ℕ
integers_in key ms = array_in key ms >>= integers_of

-- a number of a range, else rule 3
abbrev pub ranged : ℕ → ℕ → ℤ → Result ℕ ℕ
ranged low high (pos n) = if nat_le low n && nat_le n high then Ok n else Err 3
ranged low high (negsuc n) = Err 3

-- a number of a range where one is written, and else the default
abbrev pub ranged_or : ℕ → ℕ → ℕ → Option ℤ → Result ℕ ℕ
ranged_or default low high None = Ok default
ranged_or default low high (Some z) = ranged low high z

-- numbers from 0 to 255 after those so far
unfoldable pub bytes_from : List ℕ → List ℤ → Result (List ℕ) ℕ
bytes_from done [] = Ok done
bytes_from done (z ∷ zs) = ranged 0 255 z >>= λ n. bytes_from (done ++ n ∷ []) zs

-- numbers from 0 to 2^63 - 1, where those of a TOML document end
unfoldable pub words_from : List ℕ → List ℤ → Result (List ℕ) ℕ
words_from done [] = Ok done
words_from done (z ∷ zs) = ranged 0 9223372036854775807 z >>= λ n. words_from (done ++ n ∷ []) zs
