-- What an act does with registers and the counter alone, and what is left of it then.
use Rattle.std.specs.Prelude.{ℕ, ◌<◌, ◌/◌, ◌%◌, ◌^◌, slice_set}
use Rattle.fk_model.specs.declared.instruction.Instr.{Instr}
use Rattle.fk_model.specs.declared.instruction.Act.{Act}
use Rattle.fk_model.specs.declared.instruction.Act.TheVariants.{Put, Jump, Load, Store, Halt, Call}
use Rattle.fk_model.specs.Instructions.{next}
use Rattle.fk_stretch.specs.declared.running.Running.{Running}
use Rattle.fk_stretch.specs.declared.running.Rest.{Rest}
use Rattle.fk_stretch.specs.declared.running.Rest.TheVariants as rests

-- the next instruction follows
abbrev pub pass : Running → Running
pass t = record t { counter = next t.counter }

-- a register gets a value, and the next instruction follows
abbrev pub put : ℕ → ℕ → Running → Running
put register value t = record { registers = slice_set t.registers register value; counter = next t.counter }

-- what an act makes of registers and the counter by itself
abbrev pub begun : Act → Running → Running
begun (Put register value) t = put register value t
begun (Jump counter) t = record t { counter = counter }
begun (Load register address) t = t
begun (Store address value) t = t
begun (Halt code) t = t
begun Call t = t

-- what is left to be done
abbrev pub rest_of : Act → Rest
rest_of (Put register value) = rests.Nothing
rest_of (Jump counter) = rests.Nothing
rest_of (Load register address) = rests.Loads register address
rest_of (Store address value) = rests.Stores address value
rest_of (Halt code) = rests.Halts code
rest_of Call = rests.Calls

-- the register that is to be loaded is among the 16
abbrev pub IsRest : Rest → Type 0
IsRest rests.Nothing = Unit {0}
IsRest (rests.Loads register address) = register < 16
IsRest (rests.Stores address value) = Unit {0}
IsRest (rests.Halts code) = Unit {0}
IsRest rests.Calls = Unit {0}

-- the instruction in a word whose operation is this one
abbrev pub fields : ℕ → ℕ → Instr
fields op word = record { op = op; a = word / 2 ^ 52 % 16; b = word / 2 ^ 48 % 16; c = word / 2 ^ 44 % 16; n = word % 2 ^ 32 }
