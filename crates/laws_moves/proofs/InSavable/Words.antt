-- Words, and what is made of words: lists, registers, the stages of a call.
use Rattle.std.proofs.Common.{◌≡◌, ℕ, zero, suc, ◌+◌, ◌^◌, ◌<◌, Bool, true, false, cond, eqb, List, [], ◌∷◌, ◌++◌, take, drop, replicate, get_or, slice_set}
use Rattle.std.proofs.Common.{Some, refl, subst}
use Rattle.std.specs.List.{flat_map}
use Rattle.std.proofs.lemmas.Bool.{and_parts, and_from, lt-ltb, ltb-true}
use Rattle.std.proofs.lemmas.Option.{same_Some}
use Rattle.fk_model.specs.declared.stage.Stage.{Stage}
use Rattle.fk_model.specs.declared.stage.Stage.TheVariants.{ClientReceive, ClientSend, ServerReceive, ServerSend, ClientReceiveRef, ServerReceiveRef}
use Rattle.fk_model.specs.Objects.{Mode, registers_of}
use Rattle.fk_model.specs.Objects.Mode.{Running, Calling, Halted, Native}
use Rattle.fk_model.specs.Calls.{Call, calls, arguments, argument_registers, from_register, with_values, without_values, with_answers, left_by, words, named_by}
use Rattle.fk_model.specs.Calls.{todo_of, rest_of, IsTodo}
use Rattle.fk_model.specs.Shapes.{IsShapedMode}
use Rattle.fk_model.specs.Whole.{is_word, are_words}
use Rattle.fk_model.proofs.calls.CallLaws.{words_read_back_lem}
use Rattle.laws_moves.proofs.InSavable.Todos.{has_rest}

-- ---- words

abbrev pub IsWord : ℕ → Type 0
IsWord n = is_word n ≡ true

abbrev pub AreWords : List ℕ → Type 0
AreWords [] = Unit {0}
AreWords (n ∷ ns) = IsWord n × AreWords ns

pub below-word : (n : ℕ) → n < 18446744073709551616 → IsWord n
below-word n few = lt-ltb n (2 ^ 64) few

pub word-below : (n : ℕ) → IsWord n → n < 18446744073709551616
word-below n word = ltb-true n (2 ^ 64) word

pub all-words : (ns : List ℕ) → are_words ns ≡ true → AreWords ns
all-words [] h = tt
all-words (n ∷ ns) h = let both = and_parts (is_word n) (are_words ns) h in (both.0, all-words ns both.1)

pub words-all : (ns : List ℕ) → AreWords ns → are_words ns ≡ true
words-all [] all = refl
words-all (n ∷ ns) all = and_from (is_word n) (are_words ns) all.0 (words-all ns all.1)

pub words-at : (ns : List ℕ) → AreWords ns → (i : ℕ) → IsWord (get_or ns i 0)
words-at [] all i = refl
words-at (n ∷ ns) all zero = all.0
words-at (n ∷ ns) all (suc i) = words-at ns all.1 i

pub words-set : (ns : List ℕ) (i v : ℕ) → AreWords ns → IsWord v → AreWords (slice_set ns i v)
words-set [] i v all word = tt
words-set (n ∷ ns) zero v all word = (word, all.1)
words-set (n ∷ ns) (suc i) v all word = (all.0, words-set ns i v all.1 word)

pub words-append : (ns ms : List ℕ) → AreWords ns → AreWords ms → AreWords (ns ++ ms)
words-append [] ms all others = others
words-append (n ∷ ns) ms all others = (all.0, words-append ns ms all.1 others)

pub words-take : (k : ℕ) (ns : List ℕ) → AreWords ns → AreWords (take k ns)
words-take zero ns all = tt
words-take (suc k) [] all = tt
words-take (suc k) (n ∷ ns) all = (all.0, words-take k ns all.1)

pub words-drop : (k : ℕ) (ns : List ℕ) → AreWords ns → AreWords (drop k ns)
words-drop zero ns all = all
words-drop (suc k) [] all = tt
words-drop (suc k) (n ∷ ns) all = words-drop k ns all.1

pub words-zeros : (k : ℕ) → AreWords (replicate k 0)
words-zeros zero = tt
words-zeros (suc k) = (refl, words-zeros k)

-- ---- registers

-- values in registers
abbrev pub AreValues : List (ℕ × ℕ) → Type 0
AreValues [] = Unit {0}
AreValues (e ∷ es) = IsWord e.1 × AreValues es

values-append : (es fs : List (ℕ × ℕ)) → AreValues es → AreValues fs → AreValues (es ++ fs)
values-append [] fs all others = others
values-append (e ∷ es) fs all others = (all.0, values-append es fs all.1 others)

values-from : (r : ℕ) (ns : List ℕ) → AreWords ns → AreValues (from_register r ns)
values-from r [] all = tt
values-from r (n ∷ ns) all = (all.0, values-from (r + 1) ns all.1)

words-with : (es : List (ℕ × ℕ)) (g : List ℕ) → AreValues es → AreWords g → AreWords (with_values es g)
words-with [] g values all = all
words-with (e ∷ es) g values all = words-with es (slice_set g e.0 e.1) values.1 (words-set g e.0 e.1 all values.0)

pub words-without : (es : List (ℕ × ℕ)) (g : List ℕ) → AreWords g → AreWords (without_values es g)
words-without [] g all = all
words-without (e ∷ es) g all = words-without es (slice_set g e.0 0) (words-set g e.0 0 all refl)

pub words-answered : (answers g : List ℕ) → AreWords answers → AreWords g → AreWords (with_answers answers g)
words-answered answers g some all = words-with (from_register 1 answers) g (values-from 1 answers some) all

-- ---- the stages of a call

abbrev pub AreArguments : List Stage → Type 0
AreArguments [] = Unit {0}
AreArguments (stage ∷ todo) = AreValues (arguments stage) × AreArguments todo

values-all : (todo : List Stage) → AreArguments todo → AreValues (flat_map arguments todo)
values-all [] all = tt
values-all (stage ∷ todo) all = values-append (arguments stage) (flat_map arguments todo) all.0 (values-all todo all.1)

pub words-left : (stage : Stage) (todo : List Stage) (rest : List ℕ) → AreValues (arguments stage) → AreWords rest → AreWords (left_by stage todo rest)
words-left stage todo rest values all = words-without (argument_registers todo) (with_values (arguments stage) rest)
    (words-with (arguments stage) rest values all)

pub words-called : (todo : List Stage) (rest : List ℕ) → IsTodo todo → AreArguments todo → AreWords rest → AreWords (words todo rest)
unfolding words
words-called todo rest is values all = words-with (argument_registers todo) rest ((has_rest todo is).code, values-all todo values) all

-- what registers name has its arguments from them
abbrev ReadsWords : Call → Type 0
ReadsWords c = (g : List ℕ) → ((i : ℕ) → IsWord (get_or g i 0)) → AreArguments (c.todo g)

abbrev Each : (Call → Type 0) → List Call → Type 0
Each P [] = Unit {0}
Each P (c ∷ cs) = P c × Each P cs

each_reads : Each ReadsWords calls
each_reads = search depth 12

named-words : (cs : List Call) → Each ReadsWords cs → (code : ℕ) (g : List ℕ) (todo : List Stage) → named_by cs code g ≡ Some todo →
    ((i : ℕ) → IsWord (get_or g i 0)) → AreArguments todo
named-words [] each code g todo h all = cc
named-words (c ∷ cs) each code g todo h all = by (eqb code c.code) h (λ later. named-words cs each.1 code g todo later all)
  where
    by : (t : Bool) → cond t (Some (c.todo g)) (named_by cs code g) ≡ Some todo → (named_by cs code g ≡ Some todo → AreArguments todo) → AreArguments todo
    by true h later = subst AreArguments (same_Some (c.todo g) todo h) (each.0 g all)
    by false h later = later h

pub words-entered : (g : List ℕ) (todo : List Stage) → todo_of g ≡ Some todo → AreWords g → AreArguments todo × AreWords (rest_of todo g)
unfolding todo_of rest_of
words-entered g todo named all = (named-words calls each_reads (get_or g 0 0) g todo named (words-at g all), words-without (argument_registers todo) g all)

-- ---- modes

abbrev pub IsNumbered : Mode → Type 0
IsNumbered (Running g) = AreWords g
IsNumbered (Calling todo rest) = AreArguments todo × AreWords rest
IsNumbered (Halted g code) = AreWords g
IsNumbered (Native g) = AreWords g

pub numbered-of : (m : Mode) → IsShapedMode m → are_words (registers_of m) ≡ true → IsNumbered m
numbered-of (Running g) shaped h = all-words g h
numbered-of (Calling todo rest) shaped h =
    let back = words_read_back_lem todo rest shaped.0 shaped.1 in
    let both = words-entered (words todo rest) todo back.0 (all-words (words todo rest) h) in
    (both.0, subst AreWords back.1 both.1)
numbered-of (Halted g code) shaped h = all-words g h
numbered-of (Native g) shaped h = all-words g h

pub of-numbered : (m : Mode) → IsShapedMode m → IsNumbered m → are_words (registers_of m) ≡ true
of-numbered (Running g) shaped all = words-all g all
of-numbered (Calling todo rest) shaped all = words-all (words todo rest) (words-called todo rest shaped.0 all.0 all.1)
of-numbered (Halted g code) shaped all = words-all g all
of-numbered (Native g) shaped all = words-all g all

-- the address of a Send or a Receive that a call is at has room for so many words more
abbrev pub has_way : ℕ → Mode → Bool
has_way n (Calling (ClientSend address count ∷ todo) rest) = is_word (address + n)
has_way n (Calling (ClientReceive address count ∷ todo) rest) = is_word (address + n)
has_way n (Calling (ServerSend address count ∷ todo) rest) = is_word (address + n)
has_way n (Calling (ServerReceive address count ∷ todo) rest) = is_word (address + n)
has_way n (Calling (ClientReceiveRef address count reference ∷ todo) rest) = is_word (address + n)
has_way n (Calling (ServerReceiveRef address count reference ∷ todo) rest) = is_word (address + n)
has_way n other = true
