-- Runs that are recorded: what a scenario comes to by itself, and the record of it.
use Rattle.std.specs.Prelude.{◌≡◌, ℕ, List, Option, Some, None, All}
use Rattle.fk_commands.specs.declared.outcome.Outcome.{Outcome}
use Rattle.fk_commands.specs.declared.outcome.Report.{Report}
use Rattle.fk_commands.specs.declared.status.Status.{Status}
use Rattle.fk_first.specs.Cores.{RunCore}
use Rattle.fk_first.specs.First.{IsFirst}
use Rattle.fk_model.specs.declared.job.JobSpec.{JobSpec}
use Rattle.fk_model.specs.declared.names.Who.{Who}
use Rattle.fk_model.specs.Who.{named}
use Rattle.fk_model.specs.World.{World}
use Rattle.fk_natives.specs.Natives.{seen_of}
use Rattle.fk_record_text.specs.Record.{IsNote}
use Rattle.fk_record_text.specs.Whole.{record_of}
use Rattle.fk_report.specs.Paths.{path_text}
use Rattle.fk_report.specs.declared.end.End.TheVariants as ends
use Rattle.fk_responders.specs.Notes.{Note}
use Rattle.fk_responders.specs.declared.note.Watch.{Watch}
use Rattle.fk_responders.specs.declared.note.Watch.TheVariants as sights
use Rattle.fk_runs.specs.RunReports.Made.{Images, IsText, status_of_end}
use Rattle.fk_runs.specs.Runs.Runs.{IsReported, IsWritten}
use Rattle.fk_scenario.specs.declared.scenario.scenario.Scenario.{Scenario}
use Rattle.fk_recorded.specs.Pair.{recorded}
use Rattle.fk_recorded.specs.Notes.{notes_at}

-- the place of an observer in a table
abbrev pub watch_place : Watch → ℕ
watch_place sights.All = 0
watch_place sights.Replies = 1
watch_place sights.Said = 2

-- the path of a port
abbrev pub port_of : World → Who → List ℕ
port_of w who = path_text (named w who)

-- what the observer at a place sees of the notes that a run makes at each native server but the consoles, in the order of the file, with the path of
-- the server's port
abbrev pub seen_in : ℕ → (specs : List JobSpec) (given : Images) (first : RunCore) (budget : ℕ) (report : Report) → IsReported specs given first budget report
    → List (List ℕ × List Note)
seen_in watch specs given first budget report is =
    recorded (port_of first.world) (λ e. seen_of watch (notes_at is.run e)) first.servers

-- the record of that, and each of these notes is as small as its types
pub record IsRecord (watch : ℕ) (specs : List JobSpec) (given : Images) (first : RunCore) (budget : ℕ) (report : Report)
    (is : IsReported specs given first budget report) : Type 0 where
  pub text : report.recorded ≡ Some (record_of (seen_in watch specs given first budget report is))
  pub small : All (λ s. All IsNote s.1) (seen_in watch specs given first budget report is)

-- a run by itself, of which the record is made, goes on while a move is left
abbrev pub IsRecorded : ℕ → List JobSpec → Images → RunCore → ℕ → Status → Option Report → List ℕ → Type 0
IsRecorded watch specs given first budget status None text = ⊥
IsRecorded watch specs given first budget status (Some report) text =
    (written : IsWritten (IsText specs) specs given first budget report text) × (¬ (report.end ≡ ends.Listed))
    × (status ≡ status_of_end budget report.jobs report.end) × IsRecord watch specs given first budget report written.0

-- a scenario runs by itself with its own servers, with images for its jobs, and the record of that run is made
pub record IsRecordedFrom (watch : ℕ) (s : Scenario) (given : Images) (outcome : Outcome) (text : List ℕ) : Type 0 where
  pub first : RunCore
  pub is_first : IsFirst s first
  pub ran : IsRecorded watch s.jobs given first s.budget outcome.status outcome.report text
