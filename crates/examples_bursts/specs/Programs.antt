-- Programs: small ones, each at the start of its burst.
use Rattle.std.specs.Prelude.{ℕ, zero, suc, ◌^◌, ◌-◌, false, List, [], ◌∷◌, ◌++◌, length, replicate, Option, Some, None, option_map, slice_index}
use Rattle.fk_model.specs.declared.instruction.operation.TheConstants.{HALT, SET, LOAD, STORE, JMP, JNZ, ADDI, CALL}
use Rattle.fk_model.specs.Instructions.{word_of}
use Rattle.laws_bursts.specs.Bursts.{Burst}

-- the word of an operation with two registers and a number
abbrev pub word : ℕ → ℕ → ℕ → ℕ → ℕ
word op a b n = word_of (record { op = op; a = a; b = b; c = 0; n = n })

-- a page that begins with these words, and goes on with zeros
abbrev pub page : List ℕ → List ℕ
page words = words ++ replicate (64 - length words) 0

-- these pages, from the first on; no others
abbrev pub pages : List (List ℕ) → ℕ → Option (List ℕ)
pages [] n = None
pages (words ∷ more) zero = Some (page words)
pages (words ∷ more) (suc n) = pages more n

-- at the first word of the first page, with zeros in all registers
abbrev pub at_start : List (List ℕ) → Burst
at_start words = record { registers = replicate 16 0; counter = 0; page = pages words; used = λ page. false }

-- a word of a page that a burst has
abbrev pub word_of_page : Burst → ℕ → ℕ → Option ℕ
word_of_page b n at = option_map (λ words. slice_index words at) (b.page n)

-- set r1, 49999; addi r1, r1, -1; jnz r1, 1; halt
abbrev pub countdown : Burst
countdown = at_start ((word SET 1 0 49999 ∷ word ADDI 1 1 (2 ^ 32 - 1) ∷ word JNZ 1 0 1 ∷ word HALT 0 0 0 ∷ []) ∷ [])

-- addi r1, r1, 1; call
abbrev pub before_call : Burst
before_call = at_start ((word ADDI 1 1 1 ∷ word CALL 0 0 0 ∷ []) ∷ [])

-- halt
abbrev pub before_halt : Burst
before_halt = at_start ((word HALT 0 0 0 ∷ []) ∷ [])

-- jmp 64, where the second page isn't there
abbrev pub before_gap : Burst
before_gap = at_start ((word JMP 0 0 64 ∷ []) ∷ [])

-- load r1, [r0 + 70]; store r1, [r0 + 133]; halt. The second page has 70 at its word 6
abbrev pub words_moved : Burst
words_moved = at_start ((word LOAD 1 0 70 ∷ word STORE 1 0 133 ∷ []) ∷ (0 ∷ 0 ∷ 0 ∷ 0 ∷ 0 ∷ 0 ∷ 70 ∷ []) ∷ [] ∷ [] ∷ [])
