-- The lines of a text, the tokens of a line, and the label that it defines.
use Rattle.std.specs.Prelude.{ℕ, ◌-◌, Bool, not, ◌||◌, ◌&&◌, ◌==◌, List, [], ◌∷◌, filter, length, take, slice_index, Option, Some, None, if◌then◌else◌}
use Rattle.std.specs.List.{slice_split, before_first}

-- the end of a line
abbrev pub is_line_feed : ℕ → Bool
is_line_feed byte = byte == 10

-- the beginning of a comment
abbrev pub is_semicolon : ℕ → Bool
is_semicolon byte = byte == 59

-- a space, a tab, a carriage return or a comma
abbrev pub is_separator : ℕ → Bool
is_separator byte = byte == 32 || byte == 9 || byte == 13 || byte == 44

-- what stands between two separators is a token where it isn't empty
abbrev pub is_token : List ℕ → Bool
is_token piece = not (length piece == 0)

-- a line ends at a line feed, and the last one at the end of the text
abbrev pub lines_of : List ℕ → List (List ℕ)
lines_of text = slice_split is_line_feed text

-- the tokens before the comment, which begins at the first semicolon
abbrev pub tokens_of : List ℕ → List (List ℕ)
tokens_of line = filter is_token (slice_split is_separator (before_first is_semicolon line))

-- the end of a label's definition
abbrev pub ends_with_colon : List ℕ → Bool
ends_with_colon token = not (length token == 0) && slice_index token (length token - 1) == 58

-- a token that ends with a colon defines a label, whose name stands before it
abbrev pub label_in : List ℕ → Option (List ℕ)
label_in token = if ends_with_colon token then Some (take (length token - 1) token) else None

-- the first token of a line may define a label
abbrev pub label_of : List (List ℕ) → Option (List ℕ)
label_of [] = None
label_of (first ∷ after) = label_in first

-- the tokens after the label
abbrev pub unlabelled : List (List ℕ) → List (List ℕ)
unlabelled [] = []
unlabelled (first ∷ after) = if ends_with_colon first then after else first ∷ after
