-- The commands `record` and `replay`: what a scenario comes to by itself, with its record, and by a trace and a record.
use Rattle.std.specs.Prelude.{◌≡◌, ◌⊎◌, ⊤, ℕ, List, Option, Some, None, Result, Ok, Err}
use Rattle.fk_causes.specs.Causes.{Rose}
use Rattle.fk_causes.specs.Shelf.{FileMap, HasAt}
use Rattle.fk_commands.specs.declared.outcome.Outcome.{Outcome}
use Rattle.fk_commands.specs.declared.status.Status.{Status}
use Rattle.fk_commands.specs.declared.status.Status.TheVariants.{Absent, BadScenario, BadTrace, NoMemory, ShelfFault}
use Rattle.fk_commands.specs.Files.{record_name, trace_name}
use Rattle.fk_commands.specs.Outcomes.{IsRefused}
use Rattle.fk_model.specs.declared.moves.Move.{Move}
use Rattle.fk_plays.specs.Play.{IsWithImages}
use Rattle.fk_runs.specs.Recordings.Recording.{IsRecordedFrom}
use Rattle.fk_runs.specs.Recordings.Replaying.{IsReplayedBy}
use Rattle.fk_runs.specs.Runs.Made.{Images}
use Rattle.fk_trace_text.specs.Trace as traces
use Rattle.fk_scenario.specs.declared.fields.fail.ScenarioError.{ScenarioError}
use Rattle.fk_scenario.specs.declared.scenario.scenario.Scenario.{Scenario}

-- ---- `record`

-- what a scenario, or its refusal, and the files of the shelf come to
abbrev pub IsWholeRecord : ℕ → Option FileMap → Result Scenario ScenarioError → Outcome → List ℕ → Type 0
IsWholeRecord watch files (Err e) outcome text = IsRefused (BadScenario e.rule e.section e.index) outcome text
IsWholeRecord watch files (Ok s) outcome text = IsWithImages files s (IsRecordedFrom watch s) outcome text

-- ---- `replay`, with the files of the shelf

-- why no trace is had of a shelf: it has none, the get failed, its first line that is misspelled, or want of memory
abbrev pub IsTraceFail : List ℕ → Option FileMap → ℕ → ℕ → Status → Type 0
IsTraceFail name files before now (Absent told_name) = (told_name ≡ name) × HasAt files (trace_name name) None
IsTraceFail name files before now (BadTrace index) =
    (trace : List ℕ) × HasAt files (trace_name name) (Some trace) × traces.IsFirstBad (λ _ _. ⊤) trace index
IsTraceFail name files before now ShelfFault = Rose before now
IsTraceFail name files before now NoMemory = ⊤
IsTraceFail name files before now other = ⊥

-- the record may not be there
abbrev pub IsRecordFile : List ℕ → Scenario → Images → List ℕ → Option (List ℕ) → Outcome → List ℕ → Type 0
IsRecordFile name s given trace None outcome text = IsRefused (Absent name) outcome text
IsRecordFile name s given trace (Some bytes) outcome text = IsReplayedBy s given trace bytes outcome text

-- a replay of a trace by whatever the shelf may have under the name of the record
abbrev pub IsReplayedOf : List ℕ → Option FileMap → Scenario → Images → List ℕ → Outcome → List ℕ → Type 0
IsReplayedOf name files s given trace outcome text =
    (file : Option (List ℕ)) × HasAt files (record_name name) file × IsRecordFile name s given trace file outcome text

-- a trace is refused first by its first line that is misspelled, whatever its moves are
abbrev pub IsTraceFile : List ℕ → Option FileMap → Scenario → Images → Option (List ℕ) → Outcome → List ℕ → Type 0
IsTraceFile name files s given None outcome text = IsRefused (Absent name) outcome text
IsTraceFile name files s given (Some trace) outcome text =
    ((index : ℕ) × traces.IsFirstBad (λ _ _. ⊤) trace index × IsRefused (BadTrace index) outcome text)
    ⊎ ((moves : List Move) × traces.Spells (λ _ _. ⊤) trace moves × IsReplayedOf name files s given trace outcome text)

-- a replay of whatever the shelf may have under the name of the trace
abbrev pub IsReplayedWith : List ℕ → Option FileMap → Scenario → Images → Outcome → List ℕ → Type 0
IsReplayedWith name files s given outcome text =
    (trace : Option (List ℕ)) × HasAt files (trace_name name) trace × IsTraceFile name files s given trace outcome text

-- what a scenario, or its refusal, and the files of the shelf come to
abbrev pub IsReplay : List ℕ → Option FileMap → Result Scenario ScenarioError → Outcome → List ℕ → Type 0
IsReplay name files (Err e) outcome text = IsRefused (BadScenario e.rule e.section e.index) outcome text
IsReplay name files (Ok s) outcome text = IsWithImages files s (IsReplayedWith name files s) outcome text
