-- The words of a text, or the line that is refused first and why.
use Rattle.std.specs.Prelude.{◌≡◌, ℕ, List, [], ◌∷◌, ◌++◌, bit_or, Option, Some, None, Result, Ok, Err}
use Rattle.fk_asm.specs.declared.fail.AsmError.{AsmError}
use Rattle.fk_asm.specs.declared.fail.AsmFail.{AsmFail}
use Rattle.fk_asm.specs.declared.fail.AsmFail.TheVariants.{Text, NoMemory}
use Rattle.fk_asm.specs.declared.reason.Reason.{Reason}
use Rattle.fk_asm.specs.declared.reason.Reason.TheVariants.{Undefined}
use Rattle.fk_asm.specs.Reasons.{◌>>=◌, or_reason, reason_number, in_line}
use Rattle.fk_asm.specs.Lines.{lines_of}
use Rattle.fk_asm.specs.Operations.{Item}
use Rattle.fk_asm.specs.Program.{TextLine, label_address, numbered_lines, check_line}

-- ---- first pass

-- these lines are right, each after those before it; else the first that isn't
unfoldable pub check_lines : List TextLine → List TextLine → Result (Unit {0}) AsmError
check_lines before [] = Ok tt
check_lines before (line ∷ lines) = do
  _ ← in_line line.number (check_line before line)
  check_lines (before ++ line ∷ []) lines

-- ---- second pass

-- what a step makes of each element, or its first refusal
unfoldable pub traverse : {A B E : Type 0} → (A → Result B E) → List A → Result (List B) E
traverse step [] = Ok []
traverse step (x ∷ xs) = do
  y ← step x
  ys ← traverse step xs
  Ok (y ∷ ys)

-- a word, with the address of its label in it; a label that no line defines is refused
abbrev pub addressed : List TextLine → ℕ → Option (List ℕ) → Result ℕ Reason
addressed lines word None = Ok word
addressed lines word (Some name) = or_reason Undefined (label_address lines name) >>= λ address. Ok (bit_or word address)

-- the word of an item, or none
abbrev pub placed_words : List TextLine → Option Item → Result (List ℕ) Reason
placed_words lines None = Ok []
placed_words lines (Some item) = addressed lines item.word item.label >>= λ word. Ok (word ∷ [])

-- the word that a line of these lines places, or none
abbrev pub line_words : List TextLine → TextLine → Result (List ℕ) AsmError
line_words lines line = in_line line.number (line.item >>= placed_words lines)

abbrev pub all_words : List (List ℕ) → List ℕ
all_words [] = []
all_words (words ∷ more) = words ++ all_words more

-- ---- a text

-- the words of lines
unfoldable pub words_of_lines : List TextLine → Result (List ℕ) AsmError
words_of_lines lines = do
  _ ← check_lines [] lines
  words ← traverse (line_words lines) lines
  Ok (all_words words)

-- the words of a text, or its first refusal
unfoldable pub assembled : List ℕ → Result (List ℕ) AsmError
assembled text = words_of_lines (numbered_lines 1 (lines_of text))

-- ---- what code gives

-- the refusal of a line
abbrev pub refusal : ℕ → Reason → AsmFail
refusal line reason = Text (record { line = line; reason = reason_number reason })

-- what is told of a fault is the fault that there is, unless there was no memory
abbrev pub IsAsmFail : {A : Type 0} → AsmFail → Result A AsmError → Type 0
IsAsmFail NoMemory wanted = Unit {0}
IsAsmFail (Text error) wanted = wanted ≡ Err error

-- what a function gives is what is read, unless there was no memory
abbrev pub AnswersText : {X Y : Type 0} → (X → Y) → Result X AsmFail → Result Y AsmError → Type 0
AnswersText view (Ok x) wanted = wanted ≡ Ok (view x)
AnswersText view (Err fail) wanted = IsAsmFail fail wanted
