-- What a run comes to, by a trace or by itself, from its first core.
use Rattle.std.specs.Prelude.{◌≡◌, ◌≤◌, ℕ, List, [], map, length, Option, Some, None, All}
use Rattle.fk_model.specs.declared.job.JobSpec.{JobSpec}
use Rattle.laws_house.specs.Houses.{jobs_of}
use Rattle.laws_runs.specs.Cores.{IsRun}
use Rattle.fk_commands.specs.declared.status.Status.{Status}
use Rattle.fk_commands.specs.declared.status.Status.TheVariants.{BadTrace}
use Rattle.fk_commands.specs.declared.outcome.Outcome.{Outcome}
use Rattle.fk_commands.specs.declared.outcome.Report.{Report}
use Rattle.fk_first.specs.Cores.{RunCore, house}
use Rattle.fk_report.specs.declared.end.End.TheVariants as ends
use Rattle.fk_first.specs.First.{IsFirst}
use Rattle.fk_job_ends.specs.Ends.{told_in, image_of}
use Rattle.fk_runs.specs.RunReports.Made.{Images, IsEnd, IsText, IsLine, status_of_end}
use Rattle.fk_scenario.specs.declared.scenario.scenario.Scenario.{Scenario}
use Rattle.fk_trace_text.specs.Trace.{Spells, IsFirstBad, IsMove, trace_text}
use Rattle.fk_workers.specs.Workers.Plays.{MayPlay}
use Rattle.fk_workers.specs.Workers.Shown.{Shown}

-- the report's moves are a legal history from the first core, and it ends as they do, its jobs too
pub record IsReported (specs : List JobSpec) (given : Images) (first : RunCore) (budget : ℕ) (report : Report) : Type 0 where
  pub last : RunCore
  pub run : IsRun (house (jobs_of specs given)) first report.history last
  pub within : length report.history ≤ budget
  pub end : IsEnd (jobs_of specs given) budget last report.end
  pub jobs : report.jobs ≡ told_in (length specs) last.ends
  pub images : report.images ≡ map image_of specs

-- and what is written is said of their last core
abbrev pub IsWritten : (RunCore → Report → List ℕ → Type 0) → List JobSpec → Images → RunCore → ℕ → Report → List ℕ → Type 0
IsWritten Is specs given first budget report text = (reported : IsReported specs given first budget report) × Is reported.last report text

-- what contracts see of the first core
abbrev pub begun : List JobSpec → Images → ℕ → RunCore → Shown
begun specs given budget first = record { jobs = jobs_of specs given; budget = budget; core = first }

-- a run by a trace, which makes no record: the report's moves are the trace's; or the index of its first bad line
abbrev pub IsPlayed : List JobSpec → Images → RunCore → ℕ → List ℕ → Status → Option Report → List ℕ → Type 0
IsPlayed specs given first budget trace status None text =
    (index : ℕ) × (status ≡ BadTrace index) × IsFirstBad (MayPlay (begun specs given budget first)) trace index × (text ≡ [])
IsPlayed specs given first budget trace status (Some report) text =
    Spells (MayPlay (begun specs given budget first)) trace report.history × IsWritten (IsText specs) specs given first budget report text
    × (status ≡ status_of_end budget report.jobs report.end) × (report.recorded ≡ None)

-- a run by itself, which makes none either, goes on while a move is left
abbrev pub IsAlone : (RunCore → Report → List ℕ → Type 0) → List JobSpec → Images → RunCore → ℕ → Status → Option Report → List ℕ → Type 0
IsAlone Is specs given first budget status None text = ⊥
IsAlone Is specs given first budget status (Some report) text =
    IsWritten Is specs given first budget report text × (¬ (report.end ≡ ends.Listed)) × (status ≡ status_of_end budget report.jobs report.end)
    × (report.recorded ≡ None)

-- a scenario is played from its first core, with images for its jobs
pub record IsPlayedFrom (s : Scenario) (given : Images) (trace : List ℕ) (outcome : Outcome) (text : List ℕ) : Type 0 where
  pub first : RunCore
  pub is_first : IsFirst s first
  pub played : IsPlayed s.jobs given first s.budget trace outcome.status outcome.report text

-- and runs by itself
pub record IsRunFrom (s : Scenario) (given : Images) (outcome : Outcome) (text : List ℕ) : Type 0 where
  pub first : RunCore
  pub is_first : IsFirst s first
  pub ran : IsAlone (IsText s.jobs) s.jobs given first s.budget outcome.status outcome.report text

-- a run of a scenario by itself without images, of which the line of `soak` is written
pub record IsSoakFrom (count : ℕ) (s : Scenario) (outcome : Outcome) (text : List ℕ) : Type 0 where
  pub first : RunCore
  pub is_first : IsFirst s first
  pub ran : IsAlone (IsLine count) s.jobs [] first s.budget outcome.status outcome.report text

-- the trace of a run by itself plays to the same status, report and text. The names in a history are as small as their types
abbrev pub RunPlaysAgain : Type 0
RunPlaysAgain = (specs : List JobSpec) (given : Images) (first : RunCore) (budget : ℕ) (status : Status) (report : Report) (text : List ℕ)
    → All IsMove report.history
    → IsAlone (IsText specs) specs given first budget status (Some report) text
    → IsPlayed specs given first budget (trace_text report.history) status (Some report) text
