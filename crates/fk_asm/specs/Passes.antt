-- The two passes as loops over lines. `proofs/Passes.antt` shows that they come to what the definition says.
use Rattle.std.specs.Prelude.{ℕ, ◌+◌, List, [], ◌∷◌, ◌++◌, Result, Ok}
use Rattle.fk_asm.specs.declared.fail.AsmError.{AsmError}
use Rattle.fk_asm.specs.Reasons.{◌>>=◌}
use Rattle.fk_asm.specs.Lines.{tokens_of}
use Rattle.fk_asm.specs.Program.{TextLine, line_if}
use Rattle.fk_asm.specs.Assembler.{check_lines, line_words}

-- these lines and some after them, where those are right
unfoldable pub reached : List TextLine → List TextLine → Result (List TextLine) AsmError
reached before lines = check_lines before lines >>= λ _. Ok (before ++ lines)

-- first pass, from a text with this number on
unfoldable pub lines_from : List TextLine → ℕ → List (List ℕ) → Result (List TextLine) AsmError
lines_from before number [] = Ok before
lines_from before number (text ∷ texts) = reached before (line_if number (tokens_of text)) >>= λ more. lines_from more (number + 1) texts

-- second pass, behind the words so far
unfoldable pub line_words_from : List TextLine → List ℕ → List TextLine → Result (List ℕ) AsmError
line_words_from all words [] = Ok words
line_words_from all words (line ∷ lines) = line_words all line >>= λ more. line_words_from all (words ++ more) lines
