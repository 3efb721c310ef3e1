-- What an instruction asks for: the codes with which it halts are bytes, and what it writes or jumps to is a word.
use Rattle.std.proofs.Common.{ℕ, ◌+◌, ◌-◌, ◌*◌, ◌/◌, ◌%◌, ◌^◌, ◌<◌, ◌≤◌, Bool, true, false, if◌then◌else◌, ◌&&◌, ◌==◌, nat_le, nat_lt, List, Option, Some, None}
use Rattle.std.proofs.Common.{bit_and, bit_or, bit_xor, refl, arith}
use Rattle.std.proofs.Math.Nat.{mod-lt, mod-le, div-le_self}
use Rattle.std.proofs.lemmas.Nat.{and_le_l, or_lt, xor_lt}
use Rattle.fk_model.specs.declared.instruction.Act.{Act}
use Rattle.fk_model.specs.declared.instruction.Act.TheVariants.{Put, Jump, Load, Store, Halt, Call}
use Rattle.fk_model.specs.declared.instruction.Instr.{Instr}
use Rattle.fk_model.specs.declared.instruction.operation.TheConstants.{HALT, SET, MOV, ADD, SUB, MUL, AND, OR, XOR, SHL, SHR, DIV, REM, LOAD, STORE, JMP, JZ}
use Rattle.fk_model.specs.declared.instruction.operation.TheConstants.{JNZ, JLT, ADDI, CALL}
use Rattle.fk_model.specs.Instructions.{act, act_in, act_on, put_or_halt, combined, next, sign_extended}
use Rattle.laws_moves.proofs.InSavable.Words.{IsWord, AreWords, below-word, word-below, words-at}

abbrev HasLow : Act → Type 0
HasLow (Put register value) = IsWord value
HasLow (Jump to) = IsWord to
HasLow (Store address value) = IsWord value
HasLow (Halt code) = code ≤ 255
HasLow (Load register address) = Unit {0}
HasLow Call = Unit {0}

-- (a record, so that the act is read off a goal)
pub record IsLow (a : Act) : Type 0 where
  pub low : HasLow a

low-if : (t : Bool) (a b : Act) → IsLow a → IsLow b → IsLow (if t then a else b)
low-if true a b first second = first
low-if false a b first second = second

word-if : (t : Bool) (a b : ℕ) → IsWord a → IsWord b → IsWord (if t then a else b)
word-if true a b first second = first
word-if false a b first second = second

cut-word : (n : ℕ) → IsWord (n % 2 ^ 64)
cut-word n = below-word (n % 2 ^ 64) (mod-lt n (omega arith))

-- what two words make
abbrev IsMade : Option ℕ → Type 0
IsMade None = Unit {0}
IsMade (Some value) = IsWord value

record Made (o : Option ℕ) : Type 0 where
  made : IsMade o

made-if : (t : Bool) (a b : Option ℕ) → Made a → Made b → Made (if t then a else b)
made-if true a b first second = first
made-if false a b first second = second

made-combined : (op b c : ℕ) → IsWord b → IsWord c → Made (combined op b c)
made-combined op b c first second =
    let low = word-below b first in
    let other = word-below c second in
    let less = and_le_l b c in
    let divided = div-le_self b c in
    let rest = mod-le b c in
    made-if (op == ADD) _ _ (record { made = cut-word (b + c) })
    (made-if (op == SUB) _ _ (record { made = cut-word (b + (2 ^ 64 - c)) })
    (made-if (op == MUL) _ _ (record { made = cut-word (b * c) })
    (made-if (op == AND) _ _ (record { made = below-word (bit_and b c) (omega (arith, low, less)) })
    (made-if (op == OR) _ _ (record { made = below-word (bit_or b c) (or_lt 64 b c low other) })
    (made-if (op == XOR) _ _ (record { made = below-word (bit_xor b c) (xor_lt 64 b c low other) })
    (made-if (op == SHL) _ _ (record { made = word-if (nat_lt c 64) (b * 2 ^ c % 2 ^ 64) 0 (cut-word (b * 2 ^ c)) refl })
    (made-if (op == SHR) _ _ (record { made = word-if (nat_lt c 64) (b / 2 ^ c) 0 (shifted b (2 ^ c) low) refl })
    (made-if (c == 0) _ _ (record { made = tt })
    (made-if (op == DIV) _ _ (record { made = below-word (b / c) (omega (arith, low, divided)) })
    (record { made = below-word (b % c) (omega (arith, low, rest)) }))))))))))
  where
    shifted : (b k : ℕ) → b < 18446744073709551616 → IsWord (b / k)
    shifted b k low = let less = div-le_self b k in below-word (b / k) (omega (arith, low, less))

low-put : (a : ℕ) (o : Option ℕ) → Made o → IsLow (put_or_halt a o)
low-put a (Some value) made = record { low = made.made }
low-put a None made = record { low = omega arith }

low-on : (i : Instr) (a b c counter : ℕ) → IsWord i.n → IsWord a → IsWord b → IsWord c → IsLow (act_on i a b c counter)
low-on i a b c counter number first second third =
    low-if (i.op == HALT) _ _ (record { low = omega arith })
    (low-if (i.op == SET) _ _ (record { low = number }) (low-if (i.op == MOV) _ _ (record { low = second })
    (low-if (nat_le i.op REM) _ _ (low-put i.a (combined i.op b c) (made-combined i.op b c second third)) (low-if (i.op == LOAD) _ _ (record { low = tt })
    (low-if (i.op == STORE) _ _ (record { low = first }) (low-if (i.op == JMP) _ _ (record { low = number })
    (low-if (i.op == JZ) _ _ (record { low = word-if (a == 0) i.n (next counter) number after })
    (low-if (i.op == JNZ) _ _ (record { low = word-if (a == 0) (next counter) i.n after number })
    (low-if (i.op == JLT) _ _ (record { low = word-if (nat_lt a b) i.n (next counter) number after })
    (low-if (i.op == ADDI) _ _ (record { low = cut-word (b + sign_extended i.n) }) (record { low = tt })))))))))))
  where
    after : IsWord (next counter)
    after = cut-word (counter + 1)

pub low-in : (word : ℕ) (g : List ℕ) (counter : ℕ) → AreWords g → IsLow (act word g counter)
low-in word g counter all = by (nat_le (word / 2 ^ 56) CALL && word / 2 ^ 32 % 2 ^ 12 == 0)
  where
    number : IsWord (word % 2 ^ 32)
    number = let low = mod-lt word {m = 2 ^ 32} (omega arith) in below-word (word % 2 ^ 32) (omega (arith, low))

    by : (t : Bool) → IsLow (act_in (if t
        then Some (record {
          op = word / 2 ^ 56;
          a = word / 2 ^ 52 % 16;
          b = word / 2 ^ 48 % 16;
          c = word / 2 ^ 44 % 16;
          n = word % 2 ^ 32;
        }) else None) g counter)
    by true = low-on (record { op = word / 2 ^ 56; a = word / 2 ^ 52 % 16; b = word / 2 ^ 48 % 16; c = word / 2 ^ 44 % 16; n = word % 2 ^ 32 })
        _ _ _ counter number (words-at g all _) (words-at g all _) (words-at g all _)
    by false = record { low = omega arith }
