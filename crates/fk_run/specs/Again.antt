-- A run that left its trace plays again.
use Rattle.std.specs.Prelude.{◌≡◌, ◌⊎◌, ⊤, ℕ, List, Option, Some, None}
use Rattle.fk_causes.specs.Shelf.{FileMap, HasAt}
use Rattle.fk_commands.specs.Files.{image_name, record_name, trace_name}
use Rattle.fk_commands.specs.Outcomes.{reported}
use Rattle.fk_commands.specs.declared.outcome.Report.{Report}
use Rattle.fk_commands.specs.declared.status.Status.{Status}
use Rattle.fk_plays.specs.Cores.{RunCore}
use Rattle.fk_plays.specs.First.{IsFirst}
use Rattle.fk_plays.specs.Made.{Images}
use Rattle.fk_plays.specs.Runs.{IsPlayed}
use Rattle.fk_plays.specs.Again.{noted_replies, without_record}
use Rattle.fk_plays.specs.Recording.{watch_place}
use Rattle.fk_plays.specs.Replaying.{IsReplayedFrom}
use Rattle.fk_responders.specs.declared.note.Watch.{Watch}
use Rattle.fk_scenario.specs.declared.scenario.scenario.Scenario.{Scenario}
use Rattle.fk_trace_text.specs.Trace.{trace_text}
use Rattle.fk_words.specs.Commands.{Command, Run, Play, Record, Replay}
use Rattle.fk_commands.specs.Tables.{Rules}
use Rattle.fk_run.specs.Top.{IsCalledFor}

-- whatever files have under a name, others have too
abbrev pub HasSame : Option FileMap → Option FileMap → List ℕ → Type 0
HasSame these those name = (file : Option (List ℕ)) → HasAt these name file → HasAt those name file

-- an observer of all notes, or of the replies
abbrev pub SeesReplies : Watch → Type 0
SeesReplies watch = (watch_place watch ≡ 0) ⊎ (watch_place watch ≡ 1)

-- wherever this is the report of a play of a scenario by its own servers, the trace comes to the same with replays of the replies that these have noted
abbrev pub IsByNotedReplies : Report → Type 0
IsByNotedReplies report = (s : Scenario) (given : Images) (first : RunCore) (trace : List ℕ) (status : Status) (text : List ℕ) → IsFirst s first →
    (played : IsPlayed s.jobs given first s.budget trace status (Some report) text) →
    IsReplayedFrom s given (noted_replies s given first trace status report text played) trace (reported status (Some report)) text

-- whatever some bytes call for of `run --trace` with this report, the same is what they call for of `play` with the trace's name, over files that have the
-- trace as it is now and the images as they were before: the status, the report and the text
abbrev pub PlaysAgain : Rules → Option Command → Option FileMap → Option Report → Type 0
PlaysAgain rules (Some (Run (Some name))) now report = (before later : Option FileMap) (bytes : List ℕ) (status : Status) (text : List ℕ)
    → HasSame now later (trace_name name) → ((image : List ℕ) → HasSame before later (image_name image))
    → IsCalledFor rules (Some (Run (Some name))) before bytes (reported status report) text
    → IsCalledFor rules (Some (Play name)) later bytes (reported status report) text
-- whatever they call for of `record` with an observer that sees the replies, and with this report, the same is what they call for of `replay` over files that
-- have its trace and its record, and the images as they were before: the status, the report but for the record, and the text
PlaysAgain rules (Some (Record name watch)) now (Some report) = SeesReplies watch → (before later : Option FileMap) (bytes : List ℕ) (status : Status)
    (text told : List ℕ) → report.recorded ≡ Some told → HasAt later (trace_name name) (Some (trace_text report.history))
    → HasAt later (record_name name) (Some told)
    → ((image : List ℕ) → HasSame before later (image_name image))
    → IsCalledFor rules (Some (Record name watch)) before bytes (reported status (Some report)) text
    → IsCalledFor rules (Some (Replay name)) later bytes (reported status (Some (without_record report))) text
-- with replays of the replies that a play of some scenario by its own servers has noted, that is what its trace comes to, where the report is that play's
PlaysAgain rules (Some (Replay name)) now (Some report) = IsByNotedReplies report
PlaysAgain rules other now report = ⊤
