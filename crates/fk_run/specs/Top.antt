-- What the words of the command line call for, and what a call did of it.
use Rattle.std.specs.Prelude.{◌≡◌, ◌≤◌, ⊤, ℕ, Bool, ◌&&◌, List, Option, Some, None, length, nat_lt}
use Rattle.std.specs.Bool.{MatchBool}
use Rattle.std.specs.Io.KnownBytes.{Appends}
use Rattle.fk_asm.specs.Assembler.{assembled}
use Rattle.fk_causes.specs.Causes.{MayHold, AppendsPrefix, Rose}
use Rattle.fk_causes.specs.declared.whole.TheConstants.{LIMIT}
use Rattle.fk_causes.specs.Shelf.{FileMap}
use Rattle.fk_scenario.specs.Scenario.Reading.{scenario_reading}
use Rattle.fk_commands.specs.declared.status.Status.{Status}
use Rattle.fk_commands.specs.declared.status.Status.TheVariants.{Usage, TooLong}
use Rattle.fk_commands.specs.declared.outcome.Report.{Report}
use Rattle.fk_commands.specs.declared.outcome.Outcome.{Outcome}
use Rattle.fk_commands.specs.Check.{IsCheck}
use Rattle.fk_gen.specs.Soak.{scenario}
use Rattle.fk_words.specs.Commands.{Command, Exec, Check, Run, Play, Show, Soak, Record, Replay, Page, reads_source}
use Rattle.fk_commands.specs.Exec.{IsExec}
use Rattle.fk_commands.specs.Outcomes.{IsRefused}
use Rattle.fk_run.specs.PageCommand.{IsPageCommand}
use Rattle.fk_plays.specs.Play.{IsPlay, IsWholeRun, IsSoak, IsScenario, IsScenarioWithImages}
use Rattle.fk_plays.specs.Recorded.{IsWholeRecord}
use Rattle.fk_plays.specs.Recording.{watch_place}
use Rattle.fk_plays.specs.Recorded.{IsReplay}
use Rattle.fk_commands.specs.Show.{IsShow}
use Rattle.fk_commands.specs.Status.{progress_of, is_past_reading, Finished}
use Rattle.fk_commands.specs.Tables.{Rules}

-- a source that holds too many bytes is refused, and else they come to what they call for
abbrev pub IsUnlessTooLong : List ℕ → (Outcome → List ℕ → Type 0) → Outcome → List ℕ → Type 0
IsUnlessTooLong bytes Is outcome text = MatchBool (nat_lt LIMIT (length bytes)) (IsRefused TooLong outcome text) (Is outcome text)

-- the outcome and the output of a command over the rules for servers, the files of the shelf and all bytes of the source; each command has a line
abbrev pub IsCalledFor : Rules → Option Command → Option FileMap → List ℕ → Outcome → List ℕ → Type 0
IsCalledFor rules None files bytes outcome text = IsRefused Usage outcome text
IsCalledFor rules (Some Exec) files bytes outcome text = IsUnlessTooLong bytes (IsExec (assembled bytes)) outcome text
IsCalledFor rules (Some Check) files bytes outcome text = IsUnlessTooLong bytes (IsCheck (scenario_reading rules bytes)) outcome text
IsCalledFor rules (Some (Run trace)) files bytes outcome text = IsUnlessTooLong bytes (IsWholeRun files (scenario_reading rules bytes)) outcome text
IsCalledFor rules (Some (Play name)) files bytes outcome text = IsUnlessTooLong bytes (IsPlay name files (scenario_reading rules bytes)) outcome text
IsCalledFor rules (Some (Show name)) files bytes outcome text = IsShow name files outcome text
IsCalledFor rules (Some (Soak count)) files bytes outcome text = IsSoak count (scenario_reading rules (scenario count)) outcome text
IsCalledFor rules (Some (Record name watch)) files bytes outcome text =
    IsUnlessTooLong bytes (IsWholeRecord (watch_place watch) files (scenario_reading rules bytes)) outcome text
IsCalledFor rules (Some (Replay name)) files bytes outcome text = IsUnlessTooLong bytes (IsReplay name files (scenario_reading rules bytes)) outcome text
IsCalledFor rules (Some (Page slot room)) files bytes outcome text = IsUnlessTooLong bytes (IsPageCommand slot room (scenario_reading rules bytes)) outcome text

-- what a command calls for over some bytes that the source may hold: where it tells its bytes, these
pub record IsDue (rules : Rules) (command : Option Command) (left : Option (List ℕ)) (files : Option FileMap) (outcome : Outcome) (text : List ℕ) : Type 0 where
  pub bytes : List ℕ
  pub held : MayHold left bytes
  pub called_for : IsCalledFor rules command files bytes outcome text

-- a call did what is due, and wrote all of its output
pub record IsDone (rules : Rules) (command : Option Command) (left : Option (List ℕ)) (files : Option FileMap)
    (old new : Option (List ℕ)) (outcome : Outcome) : Type 0 where
  pub text : List ℕ
  pub due : IsDue rules command left files outcome text
  pub written : Appends old new text

-- a call did what is due up to its writing, of which only a front was done: its outcome is the due one but for the status, and
-- that is one after which all is written
pub record IsCutOff (rules : Rules) (command : Option Command) (left : Option (List ℕ)) (files : Option FileMap)
    (old new : Option (List ℕ)) (outcome : Outcome) : Type 0 where
  pub status : Status
  pub finished : progress_of status ≡ Finished
  pub text : List ℕ
  pub due : IsDue rules command left files (record outcome { status = status }) text
  pub written : AppendsPrefix old new text

-- a call did what is due up to a put that failed: its outcome is the due one but for the status
pub record IsUnput (rules : Rules) (command : Option Command) (left : Option (List ℕ)) (files : Option FileMap) (outcome : Outcome) : Type 0 where
  pub status : Status
  pub finished : progress_of status ≡ Finished
  pub text : List ℕ
  pub due : IsDue rules command left files (record outcome { status = status }) text

-- which commands get to the shelf over these bytes of the source: `play` and `replay` only with a scenario, `run` and `record` with one that needs an
-- image
abbrev pub AsksShelf : Rules → Option Command → List ℕ → Type 0
AsksShelf rules None bytes = ⊥
AsksShelf rules (Some Exec) bytes = ⊥
AsksShelf rules (Some Check) bytes = ⊥
AsksShelf rules (Some (Run trace)) bytes = (length bytes ≤ LIMIT) × IsScenarioWithImages (scenario_reading rules bytes)
AsksShelf rules (Some (Play name)) bytes = (length bytes ≤ LIMIT) × IsScenario (scenario_reading rules bytes)
AsksShelf rules (Some (Show name)) bytes = ⊤
AsksShelf rules (Some (Soak count)) bytes = ⊥
AsksShelf rules (Some (Record name watch)) bytes = (length bytes ≤ LIMIT) × IsScenarioWithImages (scenario_reading rules bytes)
AsksShelf rules (Some (Replay name)) bytes = (length bytes ≤ LIMIT) × IsScenario (scenario_reading rules bytes)
AsksShelf rules (Some (Page slot room)) bytes = ⊥

-- whether a command gets to the shelf over some bytes that the source may hold
abbrev pub GetsToShelf : Rules → Option Command → Option (List ℕ) → Type 0
GetsToShelf rules command left = (bytes : List ℕ) × MayHold left bytes × AsksShelf rules command bytes

-- why a call ended with a fault of the shelf: a get failed, and there is no run; or a put did, once the run was made
abbrev pub HasFailed : (gets_before gets_now puts_before puts_now : ℕ) → Rules → Option Command → Option (List ℕ) → Option FileMap → Outcome
    → Option Report → Type 0
HasFailed gets_before gets_now puts_before puts_now rules command left files outcome None = Rose gets_before gets_now × GetsToShelf rules command left
HasFailed gets_before gets_now puts_before puts_now rules command left files outcome (Some report) =
    Rose puts_before puts_now × IsUnput rules command left files outcome

-- whether a call with this status has read its source to the end
abbrev pub has_read_all : Option Command → Status → Bool
has_read_all command status = reads_source command && is_past_reading (progress_of status)
