-- What is prepared of a run that has come to a core.
use Rattle.std.specs.Prelude.{◌≡◌, ◌<◌, ◌≤◌, ℕ, List, map, length, take, Option, Some, None, string_bytes}
use Rattle.fk_model.specs.declared.moves.Move.{Move}
use Rattle.fk_model.specs.declared.job.JobSpec.{JobSpec}
use Rattle.laws_house.specs.Houses.{Job, jobs_of}
use Rattle.fk_commands.specs.declared.status.Status.{Status}
use Rattle.fk_commands.specs.declared.status.Status.TheVariants.{Ok as Done, JobRefused, Budget}
use Rattle.fk_commands.specs.declared.outcome.Report.{Report}
use Rattle.fk_commands.specs.declared.prepared.Prepared.{Prepared}
use Rattle.fk_commands.specs.Status.{progress_of, Finished}
use Rattle.fk_first.specs.Cores.{RunCore, IsAnyMove}
use Rattle.fk_report.specs.declared.end.End.{End}
use Rattle.fk_report.specs.declared.end.End.TheVariants as ends
use Rattle.fk_report.specs.declared.threads.ThreadState.{ThreadState}
use Rattle.fk_report.specs.declared.job_end.JobEnd.{JobEnd}
use Rattle.fk_report.specs.Jobs.{refused_from}
use Rattle.fk_report.specs.Report.{run_text}
use Rattle.fk_report.specs.Threads.{AreThreads, HaveHalted}
use Rattle.fk_image.specs.declared.image.image.Image.{Image}
use Rattle.fk_job_ends.specs.Ends.{told_in, image_of}
use Rattle.fk_soak.specs.Line.{soak_line}

-- how a run with these jobs ends in a core
abbrev pub IsEnd : List Job → ℕ → RunCore → End → Type 0
IsEnd jobs budget c ends.Halted = (¬ IsAnyMove jobs c) × HaveHalted c.world
IsEnd jobs budget c ends.Quiet = (¬ IsAnyMove jobs c) × (¬ HaveHalted c.world)
IsEnd jobs budget c ends.Budget = IsAnyMove jobs c × (c.events ≡ budget)
IsEnd jobs budget c ends.Listed = IsAnyMove jobs c × (c.events < budget)

-- the first job that was refused
abbrev pub status_of_refused : Option ℕ → Status
status_of_refused None = Done
status_of_refused (Some job) = JobRefused job

-- a run that used its budget tells so, and else which job was refused, if one was
abbrev pub status_of_end : ℕ → List (Option JobEnd) → End → Status
status_of_end budget jobs ends.Budget = Budget budget
status_of_end budget jobs other = status_of_refused (refused_from 0 jobs)

-- the images that are given for jobs, one for each, or none
abbrev pub Images : Type 0
Images = List (Option Image)

-- what is told of a run that has come to a core with this history
abbrev pub report_of : List JobSpec → RunCore → List Move → End → Report
report_of specs last history end =
    record { history = history; jobs = told_in (length specs) last.ends; images = map image_of specs; end = end; recorded = None }

-- ---- what is written of a run that has come to a core

-- the whole report
pub record IsText (specs : List JobSpec) (last : RunCore) (report : Report) (text : List ℕ) : Type 0 where
  pub threads : List ThreadState
  pub are : AreThreads last.world threads
  pub written : text ≡ run_text (length report.history) report.end specs report.jobs (map (λ e. e.1) last.servers) threads

-- or the one line of `soak`, of the first servers
abbrev pub IsLine : ℕ → RunCore → Report → List ℕ → Type 0
IsLine count last report text = text ≡ soak_line count report.end (take count (map (λ e. e.1) last.servers))

-- ---- what is prepared of it

-- of a core to which a history of some jobs has come, with what is written of it
pub record IsMade (Is : RunCore → Report → List ℕ → Type 0) (specs : List JobSpec) (given : Images) (last : RunCore) (budget : ℕ) (history : List Move)
    (made : Prepared) : Type 0 where
  pub within : length history ≤ budget
  pub end : End
  pub report : made.report ≡ Some (report_of specs last history end)
  pub ends : IsEnd (jobs_of specs given) budget last end
  pub written : Is last (report_of specs last history end) (string_bytes made.output)
  pub status : made.status ≡ status_of_end budget (told_in (length specs) last.ends) end
  pub finished : progress_of made.status ≡ Finished
