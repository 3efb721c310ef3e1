-- One instruction of a running thread. A word, and the word that it loads or stores, are where reach finds them.
use Rattle.std.specs.Prelude.{ℕ, ◌%◌, true, false, List, [], ◌∷◌, Option, Some, None, slice_index, slice_set}
use Rattle.fk_model.specs.declared.instruction.Act.{Act}
use Rattle.fk_model.specs.declared.instruction.Act.TheVariants.{Put, Jump, Load, Store, Halt, Call}
use Rattle.fk_model.specs.declared.limits.TheConstants.{PAGE_WORDS}
use Rattle.fk_model.specs.declared.stage.Stage.{Stage}
use Rattle.fk_model.specs.declared.statuses.status.TheConstants.{BADCALL}
use Rattle.fk_model.specs.Places.{Path}
use Rattle.fk_model.specs.Calls.{todo_of, rest_of}
use Rattle.fk_model.specs.Instructions.{act, next}
use Rattle.fk_model.specs.Objects.{Mode}
use Rattle.fk_model.specs.Objects.Mode.{Running, Calling, Halted}
use Rattle.fk_model.specs.World.{World}
use Rattle.fk_model.specs.World.Change.{Alter, PutPage}
use Rattle.fk_model.specs.World.Edit.{Proceed}
use Rattle.fk_model.specs.Reach.{reach_word, words_at}
use Rattle.fk_model.specs.Outcomes.{Outcome}
use Rattle.fk_model.specs.Outcomes.Outcome.{Goes}
use Rattle.fk_model.specs.Outcomes.Said.{Nothing}
use Rattle.fk_model.specs.Readers.{accessed}

-- the thread goes on, and nothing else changes
abbrev pub proceeds : Path → Mode → ℕ → Outcome
proceeds me mode counter = Goes (Alter me (Proceed mode counter) ∷ []) Nothing

-- a halting instruction leaves the counter
abbrev pub halts_with : Path → List ℕ → ℕ → ℕ → Outcome
halts_with me g counter code = proceeds me (Halted g code) counter

abbrev pub word_at : World → Path → ℕ → ℕ → ℕ
word_at w s page address = slice_index (words_at w s page) (address % PAGE_WORDS)

abbrev pub loads : World → Path → List ℕ → ℕ → ℕ → ℕ → Path → ℕ → Outcome
loads w me g counter register address s page = proceeds me (Running (slice_set g register (word_at w s page address))) (next counter)

abbrev pub stores : World → Path → List ℕ → ℕ → ℕ → ℕ → Path → ℕ → Outcome
stores w me g counter address value s page =
    Goes (PutPage s page (slice_set (words_at w s page) (address % PAGE_WORDS) value) ∷ Alter me (Proceed (Running g) (next counter)) ∷ []) Nothing

-- `call` enters the call that the registers name, or answers that they name none
abbrev pub enters : Path → List ℕ → ℕ → Option (List Stage) → Outcome
enters me g counter (Some todo) = proceeds me (Calling todo (rest_of todo g)) counter
enters me g counter None = proceeds me (Running (slice_set g 0 BADCALL)) (next counter)

-- `calls` says which calls the registers may name: every call for a thread of the kernel, and none for a thread alone
abbrev pub performs : (List ℕ → Option (List Stage)) → World → Path → Path → List ℕ → ℕ → Act → Outcome
performs calls w space me g counter (Put register value) = proceeds me (Running (slice_set g register value)) (next counter)
performs calls w space me g counter (Jump to) = proceeds me (Running g) to
performs calls w space me g counter (Load register address) =
    accessed me false (halts_with me g counter) (loads w me g counter register address) (reach_word w space address false)
performs calls w space me g counter (Store address value) =
    accessed me true (halts_with me g counter) (stores w me g counter address value) (reach_word w space address true)
performs calls w space me g counter (Halt code) = halts_with me g counter code
performs calls w space me g counter Call = enters me g counter (calls g)

abbrev pub executes : (List ℕ → Option (List Stage)) → World → Path → Path → List ℕ → ℕ → Path → ℕ → Outcome
executes calls w space me g counter s page = performs calls w space me g counter (act (word_at w s page counter) g counter)

-- the instruction of the thread in a slot of a space, with these registers and this counter
unfoldable pub run_row_by : (List ℕ → Option (List Stage)) → World → Path → ℕ → List ℕ → ℕ → Outcome
run_row_by calls w space slot g counter =
    accessed (slot ∷ space) false (halts_with (slot ∷ space) g counter) (executes calls w space (slot ∷ space) g counter) (reach_word w space counter false)

-- what the next instruction of a running thread comes to
abbrev pub run_row : World → Path → ℕ → List ℕ → ℕ → Outcome
run_row w space slot g counter = run_row_by todo_of w space slot g counter
