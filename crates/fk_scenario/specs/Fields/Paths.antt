-- Paths as texts.
use Rattle.std.specs.Prelude.{ℕ, ◌-◌, Bool, ◌==◌, List, [], ◌∷◌, ◌++◌, length, take, Option, Some, None, Result, Ok, Err, if◌then◌else◌}
use Rattle.std.specs.List.{slice_split}
use Rattle.fk_model.specs.Numbers.{plain_number_up_to}
use Rattle.fk_scenario.specs.Fields.Gives.{◌>>=◌, or_rule}

-- slots from 0 to 239 without leading zeros, else rule 4
unfoldable pub slots_from : List ℕ → List (List ℕ) → Result (List ℕ) ℕ
slots_from done [] = Ok done
slots_from done (piece ∷ pieces) = or_rule 4 (plain_number_up_to 239 piece) >>= λ slot. slots_from (done ++ slot ∷ []) pieces

-- what stands before each slot
abbrev pub is_slash : ℕ → Bool
is_slash byte = byte == 47

-- a path's text is a slash, or a slash and a slot, repeated; else rule 4
unfoldable pub parse_path : List ℕ → Result (List ℕ) ℕ
parse_path [] = Err 4
parse_path (byte ∷ []) = if is_slash byte then Ok [] else Err 4
parse_path (byte ∷ more ∷ text) = if is_slash byte then slots_from [] (slice_split is_slash (more ∷ text)) else Err 4

-- the same where a text is written
abbrev pub optional_path : Option (List ℕ) → Result (Option (List ℕ)) ℕ
optional_path None = Ok None
optional_path (Some text) = parse_path text >>= λ path. Ok (Some path)

-- the path of the space in which a path's object lies: all but the last slot
abbrev pub enclosing : List ℕ → List ℕ
enclosing path = take (length path - 1) path
