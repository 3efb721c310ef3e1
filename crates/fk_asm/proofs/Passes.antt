-- The two passes come to what the definition says.
use Rattle.std.proofs.Common.{◌≡◌, ℕ, ◌+◌, List, [], ◌∷◌, ◌++◌, append_assoc, Result, Ok, Err, refl, sym, ap, ◌∙◌}
use Rattle.std.proofs.lemmas.List.{append-nil}
use Rattle.fk_asm.specs.declared.fail.AsmError.{AsmError}
use Rattle.fk_asm.specs.declared.fail.AsmFail.{AsmFail}
use Rattle.fk_asm.specs.declared.fail.AsmFail.TheVariants.{Text, NoMemory}
use Rattle.fk_asm.specs.Reasons.{◌>>=◌, in_line}
use Rattle.fk_asm.specs.Lines.{lines_of, tokens_of}
use Rattle.fk_asm.specs.Program.{TextLine, line_of, line_if, numbered_lines, check_line}
use Rattle.fk_asm.specs.Assembler.{check_lines, traverse, line_words, all_words, words_of_lines, assembled, IsAsmFail}
use Rattle.fk_asm.specs.Passes.{reached, lines_from, line_words_from}

-- ---- first pass

one_more : (before : List TextLine) (number : ℕ) (tokens : List (List ℕ)) (rest : List TextLine) →
    reached before (line_if number tokens ++ rest) ≡ (reached before (line_if number tokens) >>= λ more. reached more rest)
unfolding check_lines reached
one_more before number [] rest = ap (λ (b : List TextLine). reached b rest) (sym (append-nil before))
one_more before number (token ∷ tokens) rest = by (in_line (line_of number (token ∷ tokens)).number (check_line before (line_of number (token ∷ tokens))))
  where
    by : (r : Result (Unit {0}) AsmError) →
        ((r >>= λ _. check_lines (before ++ line_of number (token ∷ tokens) ∷ []) rest) >>= λ _. Ok (before ++ line_of number (token ∷ tokens) ∷ rest))
        ≡ (((r >>= λ _. Ok (tt {0})) >>= λ _. Ok (before ++ line_of number (token ∷ tokens) ∷ [])) >>= λ more. reached more rest)
    by (Ok u) = ap (λ (all : List TextLine). check_lines (before ++ line_of number (token ∷ tokens) ∷ []) rest >>= λ _. Ok all)
        (sym (append_assoc before (line_of number (token ∷ tokens) ∷ []) rest))
    by (Err e) = refl

no_more : (before : List TextLine) → reached before [] ≡ Ok before
unfolding check_lines reached
no_more before = ap (λ (b : List TextLine). Ok b) (append-nil before)

first_pass : (before : List TextLine) (number : ℕ) (texts : List (List ℕ)) → lines_from before number texts ≡ reached before (numbered_lines number texts)
unfolding lines_from numbered_lines
first_pass before number [] = sym (no_more before)
first_pass before number (text ∷ texts) =
    by (λ more. first_pass more (number + 1) texts) (reached before (line_if number (tokens_of text)))
    ∙ sym (one_more before number (tokens_of text) (numbered_lines (number + 1) texts))
  where
    by : ((more : List TextLine) → lines_from more (number + 1) texts ≡ reached more (numbered_lines (number + 1) texts)) →
        (r : Result (List TextLine) AsmError) →
        (r >>= λ more. lines_from more (number + 1) texts) ≡ (r >>= λ more. reached more (numbered_lines (number + 1) texts))
    by go (Ok more) = go more
    by go (Err e) = refl

-- ---- second pass

second_pass : (all : List TextLine) (words : List ℕ) (lines : List TextLine) →
    line_words_from all words lines ≡ (traverse (line_words all) lines >>= λ more. Ok (words ++ all_words more))
unfolding line_words_from traverse
second_pass all words [] = ap (λ (w : List ℕ). Ok w) (sym (append-nil words))
second_pass all words (line ∷ lines) = by (λ one. second_pass all (words ++ one) lines) (line_words all line)
  where
    grouped : (one : List ℕ) (r : Result (List (List ℕ)) AsmError) →
        (r >>= λ more. Ok ((words ++ one) ++ all_words more)) ≡ ((r >>= λ more. Ok (one ∷ more)) >>= λ more. Ok (words ++ all_words more))
    grouped one (Ok more) = ap (λ (w : List ℕ). Ok w) (append_assoc words one (all_words more))
    grouped one (Err e) = refl

    by : ((one : List ℕ) → line_words_from all (words ++ one) lines
        ≡ (traverse (line_words all) lines >>= λ more. Ok ((words ++ one) ++ all_words more))) → (r : Result (List ℕ) AsmError) →
        (r >>= λ one. line_words_from all (words ++ one) lines)
        ≡ ((r >>= λ one. traverse (line_words all) lines >>= λ more. Ok (one ∷ more)) >>= λ more. Ok (words ++ all_words more))
    by go (Ok one) = go one ∙ grouped one (traverse (line_words all) lines)
    by go (Err e) = refl

-- ---- both

both : (lines : List TextLine) → (reached [] lines >>= λ all. line_words_from all [] all) ≡ words_of_lines lines
unfolding words_of_lines reached
both lines = by (check_lines [] lines)
  where
    by : (r : Result (Unit {0}) AsmError) → ((r >>= λ _. Ok lines) >>= λ all. line_words_from all [] all)
        ≡ (r >>= λ _. traverse (line_words lines) lines >>= λ words. Ok (all_words words))
    by (Ok u) = second_pass lines [] lines
    by (Err e) = refl

pub passes : (text : List ℕ) → (lines_from [] 1 (lines_of text) >>= λ all. line_words_from all [] all) ≡ assembled text
unfolding assembled
passes text = ap (λ (r : Result (List TextLine) AsmError). r >>= λ all. line_words_from all [] all) (first_pass [] 1 (lines_of text))
    ∙ both (numbered_lines 1 (lines_of text))

-- where the first pass ends, and the second
pub passes_go : (text : List ℕ) (lines : List TextLine) → lines_from [] 1 (lines_of text) ≡ Ok lines → assembled text ≡ line_words_from lines [] lines
passes_go text lines h = sym (passes text) ∙ ap (λ (r : Result (List TextLine) AsmError). r >>= λ all. line_words_from all [] all) h

pub passes_fail : (fail : AsmFail) (text : List ℕ) → IsAsmFail fail (lines_from [] 1 (lines_of text)) → IsAsmFail fail (assembled text)
passes_fail NoMemory text h = tt
passes_fail (Text error) text h = sym (passes text) ∙ ap (λ (r : Result (List TextLine) AsmError). r >>= λ all. line_words_from all [] all) h

pub ruleset text = (passes_go, passes_fail)
