-- How long pages and registers are after what moves do to them.
use Rattle.std.proofs.Common.{◌≡◌, ℕ, ◌+◌, ◌%◌, ◌==◌, if◌then◌else◌, ◌<◌, ◌≤◌, Bool, true, false, min, List, [], ◌∷◌, ◌++◌, length, take, drop, Option, Some}
use Rattle.std.proofs.Common.{None, refl, ◌∙◌, arith}
use Rattle.std.proofs.Math.Nat.{min-le_right, min-le_left, mod-lt}
use Rattle.std.proofs.lemmas.List.{length-append, length-take, length-drop, length-set, length-take-le}
use Rattle.fk_model.specs.declared.limits.TheConstants.{PAGE_WORDS, BLOCK_WORDS}
use Rattle.fk_model.specs.declared.stage.Stage.{Stage}
use Rattle.fk_model.specs.Calls.{with_values, without_values, with_answers, left_by, words, rest_of, todo_of, from_register, arguments, argument_registers}
use Rattle.fk_model.specs.Objects.{registers_of}
use Rattle.fk_model.specs.Objects.Mode.{Running, Calling, Halted}
use Rattle.fk_model.specs.TransferRows.{overwritten, block, to_page_end, moved_words}
use Rattle.fk_model.specs.Records.{calling_by, mode_of_record}
use Rattle.fk_model.proofs.calls.CallLaws.{words_keep_length_lem, length-rest_of}

-- ---- pages

pub length-overwritten : (page words : List ℕ) (at : ℕ) → length page ≡ PAGE_WORDS → at + length words ≤ PAGE_WORDS →
    length (overwritten page at words) ≡ PAGE_WORDS
length-overwritten page words at full fits =
    let first = length-take-le at page (omega (arith, full, fits)) in
    let second = length-append words (drop (at + length words) page) in
    let third = length-drop (at + length words) page in
    let both = length-append (take at page) (words ++ drop (at + length words) page) in
    omega (arith, first, second, third, both, full, fits)

pub length-block : (k address : ℕ) (page : List ℕ) → length (block k address page) ≤ k
length-block k address page =
    let e = length-take k (drop (address % PAGE_WORDS) page) in
    let least = min-le_left k (length (drop (address % PAGE_WORDS) page)) in
    omega (arith, e, least)

pub length-first : (k : ℕ) (words : List ℕ) → length (take k words) ≤ k
length-first k words = let e = length-take k words in let least = min-le_left k (length words) in omega (arith, e, least)

-- no more words are moved than fit into the page
pub moved-fit : (address count into room : ℕ) → moved_words address count into room ≤ to_page_end into
moved-fit address count into room =
    let a = min-le_right BLOCK_WORDS (min count (min (to_page_end address) (min room (to_page_end into)))) in
    let b = min-le_right count (min (to_page_end address) (min room (to_page_end into))) in
    let c = min-le_right (to_page_end address) (min room (to_page_end into)) in
    let d = min-le_right room (to_page_end into) in
    omega (arith, a, b, c, d)

pub page_place : (address : ℕ) → address % PAGE_WORDS < PAGE_WORDS
page_place address = mod-lt address (omega arith)

-- ---- registers

length-with_values : (es : List (ℕ × ℕ)) (g : List ℕ) → length (with_values es g) ≡ length g
length-with_values [] g = refl
length-with_values (e ∷ es) g = length-with_values es _ ∙ length-set g e.0 e.1

length-without_values : (es : List (ℕ × ℕ)) (g : List ℕ) → length (without_values es g) ≡ length g
length-without_values [] g = refl
length-without_values (e ∷ es) g = length-without_values es _ ∙ length-set g e.0 0

pub length-with_answers : (answers g : List ℕ) → length (with_answers answers g) ≡ length g
length-with_answers answers g = length-with_values (from_register 1 answers) g

pub length-left_by : (stage : Stage) (todo : List Stage) (rest : List ℕ) → length (left_by stage todo rest) ≡ length rest
length-left_by stage todo rest =
    length-without_values (argument_registers todo) (with_values (arguments stage) rest) ∙ length-with_values (arguments stage) rest

pub length-calling : (todo : List Stage) (rest : List ℕ) → length (registers_of (Calling todo rest)) ≡ length rest
length-calling todo rest = words_keep_length_lem todo rest

pub length-entered : (todo : List Stage) (g : List ℕ) → length (registers_of (Calling todo (rest_of todo g))) ≡ length g
length-entered todo g = length-calling todo (rest_of todo g) ∙ length-rest_of todo g

length-calling_by : (g : List ℕ) (todo : Option (List Stage)) → length (registers_of (calling_by g todo)) ≡ length g
length-calling_by g (Some todo) = length-entered todo g
length-calling_by g None = refl

-- the registers of a record
pub length-of_record : (n : ℕ) (g : List ℕ) (code : ℕ) → length (registers_of (mode_of_record n g code)) ≡ length g
length-of_record n g code = by (n == 0) (n == 1)
  where
    by : (zero one : Bool) → length (registers_of (if zero then Running g else (if one then calling_by g (todo_of g) else Halted g code))) ≡ length g
    by true one = refl
    by false true = length-calling_by g (todo_of g)
    by false false = refl
