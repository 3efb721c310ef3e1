-- Runs that come to the same by replays.
use Rattle.std.specs.Prelude.{◌≡◌, ◌⊎◌, ℕ, List, map, All, Some, None}
use Rattle.fk_commands.specs.declared.outcome.Report.{Report}
use Rattle.fk_commands.specs.Outcomes.{reported}
use Rattle.fk_commands.specs.declared.status.Status.{Status}
use Rattle.fk_first.specs.Cores.{RunCore}
use Rattle.fk_first.specs.First.{IsFirst}
use Rattle.fk_runs.specs.Recordings.Recording.{port_of, IsRecordedFrom}
use Rattle.fk_runs.specs.Recordings.Replaying.{IsReplayedBy, IsReplayedFrom}
use Rattle.fk_runs.specs.RunReports.Made.{Images}
use Rattle.fk_runs.specs.Runs.Runs.{IsPlayed}
use Rattle.fk_scenario.specs.declared.scenario.scenario.Scenario.{Scenario}
use Rattle.fk_scenario.specs.Scenario.Kept.{KeepsScenario}
use Rattle.fk_trace_text.specs.Trace.{IsMove, trace_text}
use Rattle.fk_recorded.specs.Pair.{recorded}
use Rattle.fk_recorded.specs.Notes.{notes_at, replies_of}

-- the replies that the report's run has noted at each server that is no console, in the order of the file
abbrev pub noted_replies : (s : Scenario) (given : Images) (first : RunCore) (trace : List ℕ) (status : Status) (report : Report) (text : List ℕ)
    → IsPlayed s.jobs given first s.budget trace status (Some report) text → List (List (List ℕ))
noted_replies s given first trace status report text played =
    map (λ n. replies_of n.1) (recorded (port_of first.world) (λ e. notes_at played.1.0.run e) first.servers)

-- with replays of the replies that a play by its own servers has noted, its trace comes to the same status, report and text
abbrev pub ReplaysPlayAgain : Type 0
ReplaysPlayAgain = (s : Scenario) (given : Images) (first : RunCore) (trace : List ℕ) (status : Status) (report : Report) (text : List ℕ) →
    IsFirst s first → (played : IsPlayed s.jobs given first s.budget trace status (Some report) text) →
    IsReplayedFrom s given (noted_replies s given first trace status report text played) trace (reported status (Some report)) text

-- a report without its record
abbrev pub without_record : Report → Report
without_record report = record report { recorded = None }

-- a run that was recorded, with an observer of all notes or of the replies, comes to the same by its trace and its record
abbrev pub RecordPlaysAgain : Type 0
RecordPlaysAgain = (s : Scenario) (given : Images) (watch : ℕ) (status : Status) (report : Report) (text record_ : List ℕ) → KeepsScenario s →
    (watch ≡ 0) ⊎ (watch ≡ 1) → All IsMove report.history → report.recorded ≡ Some record_ →
    IsRecordedFrom watch s given (reported status (Some report)) text →
    IsReplayedBy s given (trace_text report.history) record_ (reported status (Some (without_record report))) text
