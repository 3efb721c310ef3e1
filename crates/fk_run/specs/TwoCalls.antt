-- Two calls with a report: the run of the one has left an image on the shelf, and the run of the other has found it there.
use Rattle.std.specs.Prelude.{◌≡◌, ⊤, ℕ, true, false, ◌+◌, ◌<◌, List, [], take, Option, Some, None, Ok}
use Rattle.std.specs.List.{slice_get}
use Rattle.fk_causes.specs.Shelf.{FileMap}
use Rattle.fk_commands.specs.declared.outcome.Outcome.{Outcome}
use Rattle.fk_commands.specs.declared.outcome.Report.{Report}
use Rattle.fk_image.specs.declared.image.image.Image.{Image}
use Rattle.fk_model.specs.declared.job.JobSpec.TheVariants.{Checkpoint, Restore}
use Rattle.fk_model.specs.declared.moves.Rule.{Rule}
use Rattle.fk_report.specs.declared.job_end.JobEnd.TheVariants as told
use Rattle.fk_words.specs.Commands.{Command, Run, Play}
use Rattle.fk_plays.specs.Cores.{RunCore}
use Rattle.fk_commands.specs.Files.{image_name}
use Rattle.fk_plays.specs.Transparency.{IsTransparentReport}
use Rattle.fk_plays.specs.Images.{FindsImages}
use Rattle.fk_run.specs.Jobs.{MadeReportIsTransparent}
use Rattle.fk_plays.specs.Made.{Images}
use Rattle.fk_puts.specs.Puts.{PutsRun}
use Rattle.fk_plays.specs.Runs.{IsReported}
use Rattle.fk_commands.specs.Status.{was_cut_short, has_put_all}
use Rattle.fk_run.specs.Theorem.{Outside, Theorem}
use Rattle.fk_run.specs.Top.{IsDue}
use Rattle.fk_scenario.specs.declared.scenario.scenario.Scenario.{Scenario}
use Rattle.laws_house.specs.Houses.{maker_from}
use Rattle.laws_house.specs.Laws.{GoesOnAgain}
use Rattle.laws_restore.specs.Rooms.Restoring.{bound_by}
use Rattle.laws_runs.specs.Cores.{world_at}

-- the run that a report is of: its scenario, the images that the files of the shelf gave for its jobs, and its first core
pub record ReportedRun (files : FileMap) (report : Report) : Type 0 where
  pub scenario : Scenario
  pub given : Images
  pub found : FindsImages (Some files) [] scenario.jobs (Ok given)
  pub first : RunCore
  pub is : IsReported scenario.jobs given first scenario.budget report
  pub transparency : IsTransparentReport scenario given first report is

-- ---- from a call of the top to its run

-- the commands that run a scenario with jobs
abbrev pub RunsJobs : Command → Type 0
RunsJobs (Run trace) = ⊤
RunsJobs (Play name) = ⊤
RunsJobs other = ⊥

-- a call that did what its words call for, over files that the shelf tells, and has a report: that is of such a run
abbrev pub ReportsAreOfRuns : Type 0
ReportsAreOfRuns = (rules : List (List ℕ × Rule)) (command : Command) (left : Option (List ℕ)) (files : FileMap) (outcome : Outcome) (report : Report)
    (text : List ℕ) → RunsJobs command → outcome.report ≡ Some report → IsDue rules (Some command) left (Some files) outcome text →
    MadeReportIsTransparent rules (Some report) → ReportedRun files report

-- ---- from one run to the other

-- a checkpoint of the run is told as done, and is the last job that leaves an image under its name
pub record LeavesImage {files : FileMap} {report : Report} (run : ReportedRun files report) (birth slot hold : ℕ) (name : List ℕ) : Type 0 where
  pub index : ℕ
  pub moment : ℕ
  pub path : List ℕ
  pub release : ℕ
  pub image : Image
  pub entry : slice_get run.scenario.jobs index ≡ Some (Checkpoint moment birth path slot name)
  pub done : slice_get report.jobs index ≡ Some (Some (told.Checkpointed hold release image))
  pub last : (later from to : ℕ) (other : Image) → index < later → slice_get report.images later ≡ Some name →
      slice_get report.jobs later ≡ Some (Some (told.Checkpointed from to other)) → ⊥

-- a restore of the run is told as done, and no earlier job makes the image of its name: that is the shelf's
pub record TakesImage {files : FileMap} {report : Report} (run : ReportedRun files report) (birth slot make done : ℕ) (name : List ℕ)
    (bind : List (ℕ × ℕ)) : Type 0 where
  pub index : ℕ
  pub moment : ℕ
  pub entry : slice_get run.scenario.jobs index ≡ Some (Restore moment birth slot name bind)
  pub ended : slice_get report.jobs index ≡ Some (Some (told.Restored make done))
  pub unmade : maker_from 0 (take index run.scenario.jobs) name ≡ None

-- what the one run has left under the checkpoint's name, the other found under the restore's: the subtree that it has made has exactly the
-- further runs that the saved one had at its hold, with its ports bound
abbrev pub GoesOnFrom : {before found : FileMap} {report other : Report} → ReportedRun before report → FileMap → ReportedRun found other → Type 0
GoesOnFrom {found = found} run left later = (birth slot hold there place make done : ℕ) (name taken : List ℕ) (bind : List (ℕ × ℕ)) →
    LeavesImage run birth slot hold name → TakesImage later there place make done taken bind → found (image_name taken) ≡ left (image_name name) →
    GoesOnAgain birth slot (world_at run.is.run hold) there place (world_at later.is.run make) (world_at later.is.run (done + 1)) (bound_by bind)

-- where the one run's puts are made
abbrev pub SavedGoesOnInAnotherCall : Type 0
SavedGoesOnInAnotherCall = (before left found : FileMap) (report other : Report) (run : ReportedRun before report) (later : ReportedRun found other)
    (trace : Option (List ℕ)) → PutsRun trace report (Some before) (Some left) → GoesOnFrom run left later

-- ---- of two calls of the top

-- a call that neither the outside nor the memory has cut short, with this report, over a shelf that tells its files: these, before it
pub record WholeCall {R W H : Type 0} (rules : List (List ℕ × Rule)) (command : Command) (before after : Outside R W H) (outcome : Outcome)
    (report : Report) (files : FileMap) : Type 0 where
  pub promises : Theorem rules (Some command) before after outcome
  pub whole : was_cut_short outcome.status ≡ false
  pub has : outcome.report ≡ Some report
  pub told : before.files ≡ Some files

-- what a call of `run` has left, a later call of `run` or `play` goes on from, whatever happened to the shelf in between. The two calls may
-- have other rules, scenarios, sources and shelves
abbrev pub CallsGoOn : Type 0 → Type 0 → Type 0 → Type 0 → Type 0 → Type 0 → Type 0
CallsGoOn R W H S K F = (rules others : List (List ℕ × Rule)) (trace : Option (List ℕ)) (command : Command) (before after : Outside R W H)
    (start stop : Outside S K F) (outcome second : Outcome) (report other : Report) (files left found : FileMap) →
    WholeCall rules (Run trace) before after outcome report files → has_put_all outcome.status ≡ true → after.files ≡ Some left →
    RunsJobs command → WholeCall others command start stop second other found →
    (run : ReportedRun files report) × (later : ReportedRun found other) × GoesOnFrom run left later
