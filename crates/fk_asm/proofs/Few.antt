-- A text has at most 16384 words.
use Rattle.std.proofs.Common.{◌≡◌, ℕ, ◌+◌, ◌≤◌, Bool, true, false, not, ◌||◌, nat_lt, cond, List, [], ◌∷◌, ◌++◌, filter, length, length-append, append_assoc, Option, Some, None, is_some, Result, Ok, Err, IfOk, Vec, vec_len, refl, ap, ◌∙◌, arith}
use Rattle.std.proofs.lemmas.Bool.{ltb-true}
use Rattle.std.proofs.lemmas.List.{append-nil}
use Rattle.std.specs.declared.alloc.Global.{Global}
use Rattle.fk_asm.specs.declared.fail.AsmFail.{AsmFail}
use Rattle.fk_asm.specs.declared.fail.AsmError.{AsmError}
use Rattle.fk_asm.specs.declared.reason.Reason.{Reason}
use Rattle.fk_asm.specs.declared.reason.Reason.TheVariants.{Length}
use Rattle.fk_asm.specs.Reasons.{◌>>=◌, needs, in_line}
use Rattle.fk_asm.specs.Lines.{lines_of}
use Rattle.fk_asm.specs.Operations.{Item}
use Rattle.fk_asm.specs.Program.{TextLine, places_word, size, numbered_lines, check_label, check_line}
use Rattle.fk_asm.specs.Assembler.{check_lines, traverse, addressed, placed_words, line_words, all_words, words_of_lines, assembled, AnswersText}
use Rattle.fk_asm.proofs.Addresses.{size-push, size_one, places-Ok}

-- what a step gave, where what comes after it was reached
after : {A B E C : Type 0} (r : Result A E) (rest : A → Result B E) (y : B) → (r >>= rest) ≡ Ok y → ((x : A) → r ≡ Ok x → rest x ≡ Ok y → C) → C
after (Ok x) rest y h go = go x refl h
after (Err e) rest y h go = absurd (cc)

in_line-Ok : {A : Type 0} (line : ℕ) (r : Result A Reason) (x : A) → in_line line r ≡ Ok x → r ≡ Ok x
in_line-Ok line (Ok y) x h = let same : y ≡ x = cc in ap (λ z. Ok z) same
in_line-Ok line (Err reason) x h = absurd (cc)

abbrev words : Option Item → ℕ
words item = cond (is_some item) 1 0

has_room : (lines : List TextLine) (item : Option Item) (u : Unit {0}) → needs Length (not (is_some item) || nat_lt (size lines) 16384) ≡ Ok u
    → size lines ≤ 16384 → size lines + words item ≤ 16384
has_room lines None u h few = omega (arith, few)
has_room lines (Some item) u h few = by (nat_lt (size lines) 16384) refl h
  where
    by : (t : Bool) → nat_lt (size lines) 16384 ≡ t → cond {A = Result (Unit {0}) Reason} t (Ok tt) (Err Length) ≡ Ok u → size lines + 1 ≤ 16384
    by true e h = omega (arith, ltb-true (size lines) 16384 e)
    by false e h = absurd (cc)

-- a line whose item is read places as many words as that
placed_one : (line : TextLine) (item : Option Item) → line.item ≡ Ok item → size (line ∷ []) ≡ words item
placed_one line item h = size_one line ∙ ap (λ (r : Result (Option Item) Reason). cond {A = ℕ} (places_word r) 1 0) h
    ∙ ap (λ (t : Bool). cond {A = ℕ} t 1 0) (places-Ok item)

check_line-few : (before : List TextLine) (line : TextLine) (u : Unit {0}) → check_line before line ≡ Ok u
    → size before ≤ 16384 → size (before ++ line ∷ []) ≤ 16384
unfolding check_line
check_line-few before line u h few =
    after (check_label before line.label) _ u h (λ _ _ h.
    after line.item _ u h (λ item is_item h.
    omega (arith, size-push before line, placed_one line item is_item, has_room before item u h few)))

check_lines-few : (before lines : List TextLine) (u : Unit {0}) → check_lines before lines ≡ Ok u
    → size before ≤ 16384 → size (before ++ lines) ≤ 16384
unfolding check_lines
check_lines-few before [] u h few = omega (arith, ap size (append-nil before), few)
check_lines-few before (line ∷ lines) u h few =
    after (in_line line.number (check_line before line)) _ u h (λ v right h.
    omega (
      arith,
      ap size (append_assoc before (line ∷ []) lines),
      check_lines-few (before ++ line ∷ []) lines u h (check_line-few before line v (in_line-Ok line.number _ v right) few),
    ))

placed_words-length : (all : List TextLine) (item : Option Item) (ws : List ℕ) → placed_words all item ≡ Ok ws → length ws ≡ words item
placed_words-length all None ws h = let same : [] ≡ ws = cc in omega (arith, ap length same)
placed_words-length all (Some item) ws h =
    after (addressed all item.word item.label) _ ws h (λ word _ h.
    let same : word ∷ [] ≡ ws = cc in
    omega (arith, ap length same))

line_words-length : (all : List TextLine) (line : TextLine) (ws : List ℕ) → line_words all line ≡ Ok ws → length ws ≡ size (line ∷ [])
line_words-length all line ws h =
    after line.item _ ws (in_line-Ok line.number _ ws h) (λ item is_item h.
    omega (arith, placed_words-length all item ws h, placed_one line item is_item))

traverse-length : (all lines : List TextLine) (words : List (List ℕ)) → traverse (line_words all) lines ≡ Ok words → length (all_words words) ≡ size lines
unfolding traverse
traverse-length all [] words h = let same : [] ≡ words = cc in omega (arith, ap (λ ws. length (all_words ws)) same)
traverse-length all (line ∷ lines) words h =
    after (line_words all line) _ words h (λ ws are_ws h.
    after (traverse (line_words all) lines) _ words h (λ more are_more h.
    let same : ws ∷ more ≡ words = cc in
    omega (
      arith,
      ap (λ ws. length (all_words ws)) same,
      length-append ws (all_words more),
      line_words-length all line ws are_ws,
      traverse-length all lines more are_more,
      size-cons line lines,
    )))
  where
    size-cons : (line : TextLine) (lines : List TextLine) → size (line ∷ lines) ≡ size (line ∷ []) + size lines
    size-cons line lines = by (places_word line.item)
      where
        by : (t : Bool) → length (cond t (line ∷ filter (λ l. places_word l.item) lines) (filter (λ l. places_word l.item) lines))
            ≡ length (cond {A = List TextLine} t (line ∷ []) []) + size lines
        by true = omega arith
        by false = omega arith

pub assembled-few : (text words : List ℕ) → assembled text ≡ Ok words → length words ≤ 16384
unfolding assembled words_of_lines
assembled-few text words h =
    after (check_lines [] (numbered_lines 1 (lines_of text))) _ words h (λ u right h.
    after (traverse (line_words (numbered_lines 1 (lines_of text))) (numbered_lines 1 (lines_of text))) _ words h (λ ws are_ws h.
    let same : all_words ws ≡ words = cc in
    omega (
      arith,
      ap length same,
      traverse-length (numbered_lines 1 (lines_of text)) (numbered_lines 1 (lines_of text)) ws are_ws,
      check_lines-few [] (numbered_lines 1 (lines_of text)) u right (omega arith),
    )))

-- what the assembler gives has at most 16384 words
pub answer-few : (result : Result (Vec ℕ Global) AsmFail) (text : List ℕ) → AnswersText (λ words. words.items) result (assembled text)
    → IfOk result (λ words. vec_len words ≤ 16384)
answer-few (Ok words) text h = omega (arith, assembled-few text words.items h, words.ok)
answer-few (Err fail) text h = tt
