-- The lines of a text, each by itself, and what it is after the lines before it.
use Rattle.std.specs.Prelude.{ℕ, ◌+◌, Bool, true, false, not, ◌||◌, nat_lt, List, [], ◌∷◌, ◌++◌, filter, length, Option, Some, None, is_some, Result, Ok, Err, if◌then◌else◌}
use Rattle.std.specs.Str.{bytes_eq}
use Rattle.fk_asm.specs.declared.reason.Reason.{Reason}
use Rattle.fk_asm.specs.declared.reason.Reason.TheVariants.{Form, Defined, Length}
use Rattle.fk_asm.specs.Reasons.{◌>>=◌, needs}
use Rattle.fk_asm.specs.Operands.{is_label}
use Rattle.fk_asm.specs.Operations.{Item, item_of}
use Rattle.fk_asm.specs.Lines.{label_of, unlabelled, tokens_of}

-- ---- a line by itself

-- its number, the label that it defines, if it does, and the word that it places, if it does, or why that is refused
pub record TextLine : Type 0 where
  pub number : ℕ
  pub label : Option (List ℕ)
  pub item : Result (Option Item) Reason

-- a line by its tokens: its label and what it assembles to
abbrev pub line_of : ℕ → List (List ℕ) → TextLine
line_of number tokens = record { number = number; label = label_of tokens; item = item_of (unlabelled tokens) }

-- a line without tokens is none
abbrev pub line_if : ℕ → List (List ℕ) → List TextLine
line_if number [] = []
line_if number (token ∷ tokens) = line_of number (token ∷ tokens) ∷ []

-- the lines of these texts, the first of which has this number
unfoldable pub numbered_lines : ℕ → List (List ℕ) → List TextLine
numbered_lines number [] = []
numbered_lines number (text ∷ texts) = line_if number (tokens_of text) ++ numbered_lines (number + 1) texts

-- ---- the words and labels of some lines

abbrev pub places_word : Result (Option Item) Reason → Bool
places_word (Ok (Some item)) = true
places_word other = false

-- how many words they place
abbrev pub size : List TextLine → ℕ
size lines = length (filter (λ line. places_word line.item) lines)

abbrev pub is_name_of : Option (List ℕ) → List ℕ → Bool
is_name_of None name = false
is_name_of (Some label) name = bytes_eq label name

-- the address that a label stands for: how many words stand before the line that defines it, besides `before`
unfoldable pub label_address_from : ℕ → List TextLine → List ℕ → Option ℕ
label_address_from before [] name = None
label_address_from before (line ∷ lines) name =
    if is_name_of line.label name then Some before
    else label_address_from (before + size (line ∷ [])) lines name

-- the address of a label in a text
abbrev pub label_address : List TextLine → List ℕ → Option ℕ
label_address lines name = label_address_from 0 lines name

-- ---- a line after those before it

-- it defines no label, or a well-formed one that no line before it defines
abbrev pub check_label : List TextLine → Option (List ℕ) → Result (Unit {0}) Reason
check_label before None = Ok tt
check_label before (Some name) = do
  _ ← needs Form (is_label name)
  needs Defined (not (is_some (label_address before name)))

-- its label is right, then its operation and operands, and then there is room for its word
unfoldable pub check_line : List TextLine → TextLine → Result (Unit {0}) Reason
check_line before line = do
  _ ← check_label before line.label
  item ← line.item
  needs Length (not (is_some item) || nat_lt (size before) 16384)
