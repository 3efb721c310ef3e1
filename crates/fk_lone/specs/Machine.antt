-- A thread alone with its memory: 256 pages of 64 words, and no kernel that its calls could enter.
use Rattle.std.specs.Prelude.{ℕ, zero, suc, ◌+◌, ◌-◌, Bool, List, ◌++◌, Option, Some, None, is_none, if◌then◌else◌, nat_lt, slice_index, slice_set}
use Rattle.std.specs.Prelude.{replicate, length}
use Rattle.fk_model.specs.declared.instruction.Act.{Act}
use Rattle.fk_model.specs.declared.instruction.Act.TheVariants.{Put, Jump, Load, Store, Halt, Call}
use Rattle.fk_model.specs.Instructions.{act, next}
use Rattle.fk_lone.specs.declared.machine.TheConstants.{WORDS}

-- the registers, the counter, the code of a halt if there was one, and the words of all pages
pub record State : Type 0 where
  pub registers : List ℕ
  pub counter : ℕ
  pub halted : Option ℕ
  pub memory : List ℕ

-- at the start of a program, which stands at address 0, with zeros in all other words
abbrev pub start : List ℕ → State
start program = record {
  registers = replicate 16 0;
  counter = 0;
  halted = None;
  memory = program ++ replicate (WORDS - length program) 0;
}

-- halted with a code, where the counter stands
abbrev pub halt : State → ℕ → State
halt s code = record s { halted = Some code }

-- with a value in a register, and at the next instruction
abbrev pub put : State → ℕ → ℕ → State
put s register value = record s { registers = slice_set s.registers register value; counter = next s.counter }

-- what an act does; an address past the memory halts with code 2, and a call answers 1, for no such call
abbrev pub apply : State → Act → State
apply s (Put register value) = put s register value
apply s (Jump counter) = record s { counter = counter }
apply s (Load register address) =
    if nat_lt address WORDS
    then put s register (slice_index s.memory address)
    else halt s 2
apply s (Store address value) =
    if nat_lt address WORDS
    then record s { memory = slice_set s.memory address value; counter = next s.counter }
    else halt s 2
apply s (Halt code) = halt s code
apply s Call = put s 0 1

-- one instruction: the word at the counter is read, and what it asks for is done; a counter past the memory halts with code 2
abbrev pub instructed : State → State
instructed s =
    if nat_lt s.counter WORDS
    then apply s (act (slice_index s.memory s.counter) s.registers s.counter)
    else halt s 2

-- it has not halted
abbrev pub is_running : State → Bool
is_running s = is_none s.halted

-- a thread that has halted makes no instruction
abbrev pub step : State → State
step s = if is_running s then instructed s else s

-- at most so many instructions, up to a halt
unfoldable pub run : ℕ → State → State
run zero s = s
run (suc budget) s = if is_running s then run budget (step s) else s

-- how many instructions that run makes; the one that halts is among them
unfoldable pub events : ℕ → State → ℕ
events zero s = 0
events (suc budget) s = if is_running s then 1 + events budget (step s) else 0
