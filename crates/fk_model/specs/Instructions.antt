-- Instructions: the fields of a word, and what the operation in it asks for. Nothing here knows of memory.
use Rattle.std.specs.Prelude.{ℕ, ◌+◌, ◌-◌, ◌*◌, ◌/◌, ◌%◌, ◌^◌, ◌<◌, ◌≤◌, ◌&&◌, ◌==◌, List, Option, Some, None, if◌then◌else◌, nat_le, nat_lt, slice_index}
use Rattle.std.specs.Prelude.{bit_and, bit_or, bit_xor}
use Rattle.fk_model.specs.declared.instruction.Instr.{Instr}
use Rattle.fk_model.specs.declared.instruction.Act.{Act}
use Rattle.fk_model.specs.declared.instruction.Act.TheVariants.{Put, Jump, Load, Store, Halt, Call}
use Rattle.fk_model.specs.declared.instruction.operation.TheConstants.{HALT, SET, MOV, ADD, SUB, MUL, AND, OR, XOR, SHL, SHR, DIV, REM, LOAD, STORE, JMP, JZ}
use Rattle.fk_model.specs.declared.instruction.operation.TheConstants.{JNZ, JLT, ADDI, CALL}

-- the operation is one of the 21, and the registers are among the 16
abbrev pub IsInstr : Instr → Type 0
IsInstr i = (i.op ≤ CALL) × (i.a < 16) × (i.b < 16) × (i.c < 16)

-- the word of an instruction: the operation from bit 56 on, the registers from 52, 48 and 44, the number from 0
abbrev pub word_of : Instr → ℕ
word_of i = i.op * 2 ^ 56 + i.a * 2 ^ 52 + i.b * 2 ^ 48 + i.c * 2 ^ 44 + i.n

-- the instruction in a word; none where the operation is unknown or one of the bits 32 to 43 is set
abbrev pub instr_of : ℕ → Option Instr
instr_of word =
    if nat_le (word / 2 ^ 56) CALL && word / 2 ^ 32 % 2 ^ 12 == 0
    then Some (record { op = word / 2 ^ 56; a = word / 2 ^ 52 % 16; b = word / 2 ^ 48 % 16; c = word / 2 ^ 44 % 16; n = word % 2 ^ 32 })
    else None

-- what the operations from `add` to `rem` make of two words; nothing where the divisor is zero
abbrev pub combined : ℕ → ℕ → ℕ → Option ℕ
combined op b c =
    if op == ADD then Some ((b + c) % 2 ^ 64) else
    (if op == SUB then Some ((b + (2 ^ 64 - c)) % 2 ^ 64) else
    (if op == MUL then Some (b * c % 2 ^ 64) else
    (if op == AND then Some (bit_and b c) else
    (if op == OR then Some (bit_or b c) else
    (if op == XOR then Some (bit_xor b c) else
    (if op == SHL then Some (if nat_lt c 64 then b * 2 ^ c % 2 ^ 64 else 0) else
    (if op == SHR then Some (if nat_lt c 64 then b / 2 ^ c else 0) else
    (if c == 0 then None else
    (if op == DIV then Some (b / c) else Some (b % c))))))))))

-- a number of 32 bits with a sign, as a word
abbrev pub sign_extended : ℕ → ℕ
sign_extended n = if nat_lt n (2 ^ 31) then n else n + (2 ^ 64 - 2 ^ 32)

-- the counter goes on by one
abbrev pub next : ℕ → ℕ
next counter = (counter + 1) % 2 ^ 64

-- a zero divisor halts with code 1
abbrev pub put_or_halt : ℕ → Option ℕ → Act
put_or_halt a (Some value) = Put a value
put_or_halt a None = Halt 1

-- what an instruction asks for whose registers hold a, b and c
abbrev pub act_on : Instr → ℕ → ℕ → ℕ → ℕ → Act
act_on i a b c counter =
    if i.op == HALT then Halt 0 else
    (if i.op == SET then Put i.a i.n else
    (if i.op == MOV then Put i.a b else
    (if nat_le i.op REM then put_or_halt i.a (combined i.op b c) else
    (if i.op == LOAD then Load i.a ((b + i.n) % 2 ^ 64) else
    (if i.op == STORE then Store ((b + i.n) % 2 ^ 64) a else
    (if i.op == JMP then Jump i.n else
    (if i.op == JZ then Jump (if a == 0 then i.n else next counter) else
    (if i.op == JNZ then Jump (if a == 0 then next counter else i.n) else
    (if i.op == JLT then Jump (if nat_lt a b then i.n else next counter) else
    (if i.op == ADDI then Put i.a ((b + sign_extended i.n) % 2 ^ 64) else Call))))))))))

-- what an instruction asks for, by the registers that it names
abbrev pub act_of : Instr → List ℕ → ℕ → Act
act_of i registers counter = act_on i (slice_index registers i.a) (slice_index registers i.b) (slice_index registers i.c) counter

-- an unknown operation halts with code 3
abbrev pub act_in : Option Instr → List ℕ → ℕ → Act
act_in (Some i) registers counter = act_of i registers counter
act_in None registers counter = Halt 3

-- what a word asks for, with these registers and this counter
abbrev pub act : ℕ → List ℕ → ℕ → Act
act word registers counter = act_in (instr_of word) registers counter

-- the register that an act names is among the 16
abbrev pub IsAct : Act → Type 0
IsAct (Put register value) = register < 16
IsAct (Load register address) = register < 16
IsAct (Jump counter) = Unit {0}
IsAct (Store address value) = Unit {0}
IsAct (Halt code) = Unit {0}
IsAct Call = Unit {0}
