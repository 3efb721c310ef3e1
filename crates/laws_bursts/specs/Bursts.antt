-- Bursts: instructions of a thread beside the world, over some pages of its space.
use Rattle.std.specs.Prelude.{ℕ, zero, suc, ◌+◌, ◌/◌, ◌%◌, Bool, ◌||◌, ◌==◌, List, Option, Some, None, if◌then◌else◌, slice_index, slice_set}
use Rattle.fk_model.specs.declared.instruction.Act.{Act}
use Rattle.fk_model.specs.declared.instruction.Act.TheVariants.{Put, Jump, Load, Store, Halt, Call}
use Rattle.fk_model.specs.declared.limits.TheConstants.{PAGE_WORDS}
use Rattle.fk_model.specs.Instructions.{act, next}
use Rattle.fk_model.specs.Objects.{and_then}

-- the thread's registers and its counter, the words of the pages that the burst has, and which of these its instructions have used
pub record Burst : Type 0 where
  pub registers : List ℕ
  pub counter : ℕ
  pub page : ℕ → Option (List ℕ)
  pub used : ℕ → Bool

-- ---- one instruction

-- a page is used
abbrev pub using : ℕ → Burst → Burst
using page b = record b { used = λ p. p == page || b.used p }

-- a register gets a value, and the next instruction follows
abbrev pub put : ℕ → ℕ → Burst → Burst
put register value b = record b { registers = slice_set b.registers register value; counter = next b.counter }

-- a page gets these words, and the next instruction follows
abbrev pub write : ℕ → List ℕ → Burst → Burst
write page words b = record b { page = λ p. if p == page then Some words else b.page p; counter = next b.counter }

-- what f makes of it and the words of a page, which it then has used; nothing where it hasn't that page
abbrev pub with_page : ℕ → (List ℕ → Burst → Option Burst) → Burst → Option Burst
with_page page f b = and_then (λ words. f words (using page b)) (b.page page)

abbrev pub load : ℕ → ℕ → List ℕ → Burst → Option Burst
load register address words b = Some (put register (slice_index words (address % PAGE_WORDS)) b)

abbrev pub store : ℕ → ℕ → List ℕ → Burst → Option Burst
store address value words b = Some (write (address / PAGE_WORDS) (slice_set words (address % PAGE_WORDS) value) b)

-- what an act makes of it; nothing for a halt or a call
abbrev pub acted : Act → Burst → Option Burst
acted (Put register value) b = Some (put register value b)
acted (Jump counter) b = Some (record b { counter = counter })
acted (Load register address) b = with_page (address / PAGE_WORDS) (load register address) b
acted (Store address value) b = with_page (address / PAGE_WORDS) (store address value) b
acted (Halt code) b = None
acted Call b = None

-- what the word at the counter asks for
abbrev pub fetched : Burst → List ℕ → Burst → Option Burst
fetched at words b = acted (act (slice_index words (at.counter % PAGE_WORDS)) at.registers at.counter) b

-- one instruction; nothing where it is a call, would halt, or needs a word of a page that the burst hasn't
abbrev pub instructed : Burst → Option Burst
instructed b = with_page (b.counter / PAGE_WORDS) (fetched b) b

-- ---- several

-- exactly so many; nothing where one of them can't be made
unfoldable pub made : ℕ → Burst → Option Burst
made zero b = Some b
made (suc n) b = and_then instructed (made n b)

abbrev pub going_on : (Burst → Burst) → Burst → Option Burst → Burst
going_on go b None = b
going_on go b (Some c) = go c

-- at most so many, up to one that can't be made
unfoldable pub run : ℕ → Burst → Burst
run zero b = b
run (suc n) b = going_on (run n) b (instructed b)

abbrev pub counted : (Burst → ℕ) → Option Burst → ℕ
counted go None = 0
counted go (Some c) = 1 + go c

-- how many these are
unfoldable pub count : ℕ → Burst → ℕ
count zero b = 0
count (suc n) b = counted (count n) (instructed b)
