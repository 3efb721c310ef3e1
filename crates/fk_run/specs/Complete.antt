-- A call whose input is right does all that it is asked for, wherever neither the outside nor the memory fails.
use Rattle.std.specs.Prelude.{◌≡◌, ◌≤◌, ⊤, ◌⊎◌, ℕ, List, [], ◌∷◌, ◌++◌, length, Option, Some, None, IfSome, Result, Ok}
use Rattle.fk_asm.specs.Assembler.{assembled}
use Rattle.fk_asm.specs.declared.fail.AsmError.{AsmError}
use Rattle.fk_plays.specs.Plays.{MayPlay}
use Rattle.fk_causes.specs.Causes.{MayHold}
use Rattle.fk_causes.specs.declared.whole.TheConstants.{LIMIT}
use Rattle.fk_causes.specs.Shelf.{FileMap, HasAt}
use Rattle.fk_commands.specs.declared.outcome.Outcome.{Outcome}
use Rattle.fk_commands.specs.declared.status.Status.TheVariants.{NoMemory}
use Rattle.fk_commands.specs.Files.{image_name, record_name, trace_name}
use Rattle.fk_commands.specs.Status.{progress_of, Finished}
use Rattle.fk_plays.specs.Cores.{RunCore}
use Rattle.fk_plays.specs.First.{IsFirst}
use Rattle.fk_gen.specs.Soak.{scenario}
use Rattle.fk_image.specs.declared.image.image.Image.{Image}
use Rattle.fk_image.specs.Format.Reading.{image_reading}
use Rattle.fk_model.specs.declared.job.JobSpec.{JobSpec}
use Rattle.fk_model.specs.declared.moves.Move.{Move}
use Rattle.fk_pager.specs.Pages.{MayBePaged}
use Rattle.fk_plays.specs.Images.{needed, FindsImages}
use Rattle.fk_plays.specs.Play.{IsScenario}
use Rattle.fk_puts.specs.Puts.{HasPut}
use Rattle.fk_plays.specs.Record.{Entry, Spells as IsRecord}
use Rattle.fk_plays.specs.Ports.{ports_of}
use Rattle.fk_plays.specs.Replaying.{replies_by}
use Rattle.fk_plays.specs.Posts.{all_replaying}
use Rattle.fk_plays.specs.Following.{core_with}
use Rattle.fk_commands.specs.Tables.{Rules}
use Rattle.fk_run.specs.Top.{IsDone}
use Rattle.fk_plays.specs.Made.{Images}
use Rattle.fk_plays.specs.Runs.{begun}
use Rattle.fk_scenario.specs.declared.scenario.scenario.Scenario.{Scenario}
use Rattle.fk_scenario.specs.Scenario.Reading.{scenario_reading}
use Rattle.fk_scenario.specs.declared.fields.fail.ScenarioError.{ScenarioError}
use Rattle.fk_trace_text.specs.Trace.{Spells}
use Rattle.fk_words.specs.Commands.{Command, Exec, Check, Run, Play, Show, Soak, Record, Replay, Page, leaves}

-- ---- what is needed is there

-- a file that is an image
abbrev pub IsImageFile : Option (List ℕ) → Type 0
IsImageFile None = ⊥
IsImageFile (Some bytes) = (image : Image) × (image_reading bytes ≡ Ok image)

-- whatever the shelf may have under the name of an image is one
abbrev pub HasImage : Option FileMap → List ℕ → Type 0
HasImage files name = (file : Option (List ℕ)) → HasAt files (image_name name) file → IsImageFile file

-- whatever the shelf may have under the name of an image that jobs behind others need is one
abbrev pub HasImages : Option FileMap → List JobSpec → List JobSpec → Type 0
HasImages files before [] = ⊤
HasImages files before (job ∷ jobs) = IfSome (needed before job) (HasImage files) × HasImages files (before ++ job ∷ []) jobs

-- a file that is a trace which may be played: its lines are moves, no more than the budget has, each of which is ready after those before it
abbrev pub IsTraceFile : Option FileMap → Scenario → Option (List ℕ) → Type 0
IsTraceFile files s None = ⊥
IsTraceFile files s (Some trace) = (given : Images) (first : RunCore) → FindsImages files [] s.jobs (Ok given) → IsFirst s first
    → (moves : List Move) × Spells (MayPlay (begun s.jobs given s.budget first)) trace moves

-- whatever the shelf may have under the name of a trace is one
abbrev pub HasTrace : Option FileMap → List ℕ → Scenario → Type 0
HasTrace files name s = (trace : Option (List ℕ)) → HasAt files (trace_name name) trace → IsTraceFile files s trace

-- a record of the ports of servers that are no consoles, by whose replies a trace may be played
abbrev pub IsRecordFile : Option FileMap → Scenario → List ℕ → Option (List ℕ) → Type 0
IsRecordFile files s trace None = ⊥
IsRecordFile files s trace (Some bytes) = (entries : List Entry) × IsRecord (ports_of s.servers) bytes entries
    × ((given : Images) (first : RunCore) → FindsImages files [] s.jobs (Ok given) → IsFirst s first
    → (moves : List Move) × Spells (MayPlay (begun s.jobs given s.budget (core_with first (all_replaying (replies_by s entries) first.servers)))) trace moves)

-- a file that is a trace, each line of which is spelled, beside whatever record of it the shelf may have: by that the trace may be played
abbrev pub IsReplayFile : Option FileMap → List ℕ → Scenario → Option (List ℕ) → Type 0
IsReplayFile files name s None = ⊥
IsReplayFile files name s (Some trace) = ((moves : List Move) × Spells (λ _ _. ⊤) trace moves)
    × ((told : Option (List ℕ)) → HasAt files (record_name name) told → IsRecordFile files s trace told)

-- whatever the shelf may have under the name of a trace is spelled, and under that of its record is such
abbrev pub HasReplay : Option FileMap → List ℕ → Scenario → Type 0
HasReplay files name s = (trace : Option (List ℕ)) → HasAt files (trace_name name) trace → IsReplayFile files name s trace

-- ---- right input

-- a text that is assembled
abbrev pub IsProgram : Result (List ℕ) AsmError → Type 0
IsProgram reading = (program : List ℕ) × (reading ≡ Ok program)

-- a text that has a scenario with what that needs
abbrev pub IsScenarioWith : (Scenario → Type 0) → Result Scenario ScenarioError → Type 0
IsScenarioWith Has reading = (s : Scenario) × (reading ≡ Ok s) × Has s

-- the words are a command, its text or its scenario is accepted, and each image and the trace that it needs are there, spelled and legal
abbrev pub IsRight : Rules → Option Command → Option FileMap → List ℕ → Type 0
IsRight rules None files bytes = ⊥
IsRight rules (Some Exec) files bytes = (length bytes ≤ LIMIT) × IsProgram (assembled bytes)
IsRight rules (Some Check) files bytes = (length bytes ≤ LIMIT) × IsScenario (scenario_reading rules bytes)
IsRight rules (Some (Run trace)) files bytes =
    (length bytes ≤ LIMIT) × IsScenarioWith (λ s. HasImages files [] s.jobs) (scenario_reading rules bytes)
IsRight rules (Some (Play name)) files bytes =
    (length bytes ≤ LIMIT) × IsScenarioWith (λ s. HasImages files [] s.jobs × HasTrace files name s) (scenario_reading rules bytes)
IsRight rules (Some (Show name)) files bytes = HasImage files name
IsRight rules (Some (Soak count)) files bytes = IsScenario (scenario_reading rules (scenario count))
IsRight rules (Some (Record name watch)) files bytes =
    (length bytes ≤ LIMIT) × IsScenarioWith (λ s. HasImages files [] s.jobs) (scenario_reading rules bytes)
IsRight rules (Some (Replay name)) files bytes =
    (length bytes ≤ LIMIT) × IsScenarioWith (λ s. HasImages files [] s.jobs × HasReplay files name s) (scenario_reading rules bytes)
IsRight rules (Some (Page slot room)) files bytes = (length bytes ≤ LIMIT) × IsScenarioWith (MayBePaged slot) (scenario_reading rules bytes)

-- whatever bytes the source may hold are right for the command
abbrev pub AreRight : Rules → Option Command → Option (List ℕ) → Option FileMap → Type 0
AreRight rules command left files = (bytes : List ℕ) → MayHold left bytes → IsRight rules command files bytes

-- ---- what comes of it

-- all that is due is done: the run came to its end, its whole output is written, and all puts are made
pub record IsWhole (rules : Rules) (command : Option Command) (left : Option (List ℕ)) (files now : Option FileMap) (old new : Option (List ℕ))
    (outcome : Outcome) : Type 0 where
  pub finished : progress_of outcome.status ≡ Finished
  pub done : IsDone rules command left files old new outcome
  pub put : HasPut (leaves command) outcome.report files now

-- right input comes to that, or there is no memory
abbrev pub IsComplete : Rules → Option Command → Option (List ℕ) → Option FileMap → Option FileMap → Option (List ℕ) → Option (List ℕ) → Outcome → Type 0
IsComplete rules command left files now old new outcome =
    AreRight rules command left files → IsWhole rules command left files now old new outcome ⊎ (outcome.status ≡ NoMemory)
