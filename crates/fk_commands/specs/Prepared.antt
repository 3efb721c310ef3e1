-- What is prepared of a command before anything is written, and why nothing is.
use Rattle.std.specs.Prelude.{◌≡◌, ◌<◌, ⊤, ℕ, List, [], Option, None, Result, Ok, Err, length, string_bytes}
use Rattle.std.specs.Bool.{OnFalse}
use Rattle.fk_asm.specs.declared.fail.AsmError.{AsmError}
use Rattle.fk_causes.specs.Causes.{Rose, MayHold}
use Rattle.fk_causes.specs.declared.whole.TheConstants.{LIMIT}
use Rattle.fk_causes.specs.Shelf.{FileMap, HasAt}
use Rattle.fk_scenario.specs.declared.fields.fail.ScenarioError.{ScenarioError}
use Rattle.fk_image.specs.declared.image.image.Image.{Image}
use Rattle.fk_scenario.specs.declared.scenario.scenario.Scenario.{Scenario}
use Rattle.fk_commands.specs.declared.prepared.Prepared.{Prepared}
use Rattle.fk_commands.specs.declared.status.Status.{Status}
use Rattle.fk_commands.specs.declared.status.Status.TheVariants.{TooLong, BadText, BadScenario, Absent, BadImage, ReadFault, ShelfFault, NoMemory}
use Rattle.fk_commands.specs.declared.outcome.Outcome.{Outcome}
use Rattle.fk_commands.specs.Outcomes.{reported, without_report}
use Rattle.fk_commands.specs.Status.{row_of, was_cut_short, progress_of, Progress, Words, Reading, Refusing, Writing, Finished}
use Rattle.fk_commands.specs.Status.{Failed, Nothing, Source, Sink, Shelf, Memory}

-- ---- for all commands

-- the outcome once the output is written, of a command that comes to nothing besides a report
abbrev pub outcome_of : Prepared → Outcome
outcome_of run = reported run.status run.report

-- what is prepared has the outcome and the output that are due, and so has a refusal, unless the call was cut short
abbrev pub ComesTo : (Outcome → List ℕ → Type 0) → Result Prepared Status → Type 0
ComesTo IsDue (Ok run) = IsDue (outcome_of run) (string_bytes run.output) × (progress_of run.status ≡ Finished)
ComesTo IsDue (Err status) = OnFalse (was_cut_short status) (IsDue (without_report status) [])

-- what has to have happened where this failed: at the source, or at the shelf
abbrev pub IsCaused : Type 0 → Type 0 → Failed → Type 0
IsCaused AtSource AtShelf Nothing = ⊤
IsCaused AtSource AtShelf Source = AtSource
IsCaused AtSource AtShelf Sink = ⊥
IsCaused AtSource AtShelf Shelf = AtShelf
IsCaused AtSource AtShelf Memory = ⊤

-- a call that came so far was refused behind its words and before the sink, for a cause
abbrev pub IsRefusedAt : Type 0 → Type 0 → Progress → Failed → Type 0
IsRefusedAt AtSource AtShelf Words failed = ⊥
IsRefusedAt AtSource AtShelf Reading failed = IsCaused AtSource AtShelf failed
IsRefusedAt AtSource AtShelf Refusing failed = IsCaused AtSource AtShelf failed
IsRefusedAt AtSource AtShelf Writing failed = ⊥
IsRefusedAt AtSource AtShelf Finished failed = ⊥

-- the statuses of such calls
abbrev pub IsRefusal : Type 0 → Type 0 → Status → Type 0
IsRefusal AtSource AtShelf status = IsRefusedAt AtSource AtShelf (row_of status).came (row_of status).failed

-- ---- why a part of a command gives nothing: each has only the statuses that are listed

-- a source, which may have held too many bytes
abbrev pub IsReadFail : Option (List ℕ) → ℕ → ℕ → Status → Type 0
IsReadFail left before now TooLong = (bytes : List ℕ) × MayHold left bytes × (LIMIT < length bytes)
IsReadFail left before now ReadFault = Rose before now
IsReadFail left before now NoMemory = ⊤
IsReadFail left before now other = ⊥

-- a text that isn't assembled
abbrev pub IsTextFail : Result (List ℕ) AsmError → Status → Type 0
IsTextFail reading (BadText line reason) = reading ≡ Err (record { line = line; reason = reason })
IsTextFail reading NoMemory = ⊤
IsTextFail reading other = ⊥

-- a text that is no scenario
abbrev pub IsScenarioFail : Result Scenario ScenarioError → Status → Type 0
IsScenarioFail reading (BadScenario rule section index) = reading ≡ Err (record { rule = rule; section = section; index = index })
IsScenarioFail reading NoMemory = ⊤
IsScenarioFail reading other = ⊥

-- a shelf without the file of a name
abbrev pub IsFileFail : List ℕ → List ℕ → Option FileMap → ℕ → ℕ → Status → Type 0
IsFileFail file name files before now (Absent told_name) = (told_name ≡ name) × HasAt files file None
IsFileFail file name files before now ShelfFault = Rose before now
IsFileFail file name files before now NoMemory = ⊤
IsFileFail file name files before now other = ⊥

-- a file that is no image
abbrev pub IsImageFail : List ℕ → Result Image (ℕ × ℕ) → Status → Type 0
IsImageFail name reading (BadImage told_name offset reason) = (told_name ≡ name) × (reading ≡ Err (offset, reason))
IsImageFail name reading NoMemory = ⊤
IsImageFail name reading other = ⊥
