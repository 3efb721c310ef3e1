-- All together: what the report of a run says of the subtrees that its jobs have saved and made again.
use Rattle.std.specs.Prelude.{◌≡◌, ℕ, ◌+◌, ◌<◌, true, List, take, Some}
use Rattle.std.specs.List.{slice_get}
use Rattle.fk_commands.specs.declared.outcome.Report.{Report}
use Rattle.fk_first.specs.Cores.{RunCore}
use Rattle.fk_first.specs.First.{IsBegun}
use Rattle.fk_image.specs.declared.image.image.Image.{Image}
use Rattle.fk_image.specs.Image.Picture.{picture}
use Rattle.fk_image.specs.Image.Valid.{is_valid}
use Rattle.fk_model.specs.declared.job.JobSpec.TheVariants.{Checkpoint, Restore}
use Rattle.fk_model.specs.Cut.{IsPlain}
use Rattle.fk_model.specs.Places.{Path}
use Rattle.fk_model.specs.Valid.{birth_at}
use Rattle.fk_report.specs.declared.job_end.JobEnd.TheVariants as told
use Rattle.fk_runs.specs.RunReports.Made.{Images}
use Rattle.fk_runs.specs.Runs.Runs.{IsReported}
use Rattle.fk_scenario.specs.declared.scenario.scenario.Scenario.{Scenario}
use Rattle.fk_scenario.specs.Scenario.Kept.{KeepsScenario}
use Rattle.fk_first.specs.Entries.{IsFrom}
use Rattle.laws_house.specs.Houses.{maker_from}
use Rattle.laws_house.specs.Transparency.{IsTransparent}
use Rattle.laws_house.specs.Laws.{GoesOnAgain}
use Rattle.laws_restore.specs.Rooms.Restoring.{bound_by}
use Rattle.laws_runs.specs.Cores.{world_at}
use Rattle.laws_runs.specs.Transparency.{Checkpointed, Restored}

-- the report's history has all that the laws of jobs say of a run; and so have the jobs as the report tells their ends
pub record IsTransparentReport (s : Scenario) (given : Images) (first : RunCore) (report : Report)
    (is : IsReported s.jobs given first s.budget report) : Type 0 where
  pub run : IsTransparent is.run
  -- a checkpoint that is told as done has a valid image, and from its hold to behind its release the subtree is what that shows
  pub saved : (index moment birth : ℕ) (path : List ℕ) (slot : ℕ) (name : List ℕ) (image : Image) (hold release : ℕ) →
      slice_get s.jobs index ≡ Some (Checkpoint moment birth path slot name) →
      slice_get report.jobs index ≡ Some (Some (told.Checkpointed hold release image)) →
      (is_valid image ≡ true) × Checkpointed is.run birth slot hold release (picture image)
  -- and is plain at its hold: so from there on, and from its release on, up to the first move that it sees as other, what it sees of the
  -- history is a further run of it (`run.goes_on`)
  pub plain : (index moment birth : ℕ) (path : List ℕ) (slot : ℕ) (name : List ℕ) (image : Image) (hold release : ℕ) →
      slice_get s.jobs index ≡ Some (Checkpoint moment birth path slot name) →
      slice_get report.jobs index ≡ Some (Some (told.Checkpointed hold release image)) →
      (nester : Path) → birth_at (world_at is.run hold) nester ≡ Some birth → IsPlain (world_at is.run hold) nester slot
  -- a restore that is told as done has made, at its release, what its image shows, with its ports bound; and whence it had the image
  pub made : (index moment birth slot : ℕ) (name : List ℕ) (bind : List (ℕ × ℕ)) (make release : ℕ) →
      slice_get s.jobs index ≡ Some (Restore moment birth slot name bind) → slice_get report.jobs index ≡ Some (Some (told.Restored make release)) →
      (image : Image) × IsFrom s.jobs given is.last.ends index name image × (is_valid image ≡ true)
      × Restored is.run birth slot make release (bound_by bind) (picture image)
  -- and where an earlier job of the same run has made that image, it has exactly the further runs of what was saved
  pub goes_on : (from index moment birth : ℕ) (path : List ℕ) (slot : ℕ) (saves : List ℕ) (later other place : ℕ) (name : List ℕ) (bind : List (ℕ × ℕ))
      (image : Image) (hold release make done : ℕ) →
      slice_get s.jobs from ≡ Some (Checkpoint moment birth path slot saves) → slice_get report.jobs from ≡ Some (Some (told.Checkpointed hold release image)) →
      slice_get s.jobs index ≡ Some (Restore later other place name bind) → slice_get report.jobs index ≡ Some (Some (told.Restored make done)) →
      maker_from 0 (take index s.jobs) name ≡ Some from → from < index →
      GoesOnAgain birth slot (world_at is.run hold) other place (world_at is.run make) (world_at is.run (done + 1)) (bound_by bind)

-- of every scenario that was read, with whatever images and servers
abbrev pub ReportsAreTransparent : Type 0
ReportsAreTransparent = (s : Scenario) (given : Images) (first : RunCore) (report : Report) → KeepsScenario s → IsBegun s first →
    (is : IsReported s.jobs given first s.budget report) → IsTransparentReport s given first report is
