-- Reports are transparent.
use Rattle.std.proofs.Common.{◌≡◌, ℕ, length, Some, ap, ◌∙◌}
use Rattle.std.specs.List.{slice_get}
use Rattle.fk_commands.specs.declared.outcome.Report.{Report}
use Rattle.fk_first.specs.Cores.{RunCore}
use Rattle.fk_workers.specs.Workers.Served.{servers}
use Rattle.fk_image.specs.declared.image.image.Image.{Image}
use Rattle.fk_report.specs.declared.job_end.JobEnd.TheVariants as told
use Rattle.fk_runs.specs.Runs.Transparency.{ReportsAreTransparent}
use Rattle.fk_runs.specs.RunReports.Made.{Images}
use Rattle.fk_runs.specs.Runs.Runs.{IsReported}
use Rattle.fk_job_ends.proofs.Ended.{told-end, is-saved, is-made}
use Rattle.fk_scenario.specs.declared.scenario.scenario.Scenario.{Scenario}
use Rattle.laws_checkpoint.specs.Checkpoint as checkpoints
use Rattle.laws_restore.specs.Restore.Restore as restores
use Rattle.fk_first.proofs.Entries.{entries_are_saved, entries_are_plain, entries_are_made, entries_go_on}
use Rattle.fk_first.proofs.Programs.{programs_are_grounded, programs_run_transparently}
use Rattle.laws_house.specs.Houses.End.{Checked, Restored}
use Rattle.laws_runs.specs.Cores.JobEnd.{Worked}

module _ (s : Scenario) (given : Images) (first : RunCore) (report : Report) (is : IsReported s.jobs given first s.budget report) where
  saved : (index hold release : ℕ) (image : Image) → slice_get report.jobs index ≡ Some (Some (told.Checkpointed hold release image))
      → slice_get is.last.ends index ≡ Some (Worked (Checked (checkpoints.Done image)) hold release)
  saved index hold release image got =
      let (e, at, tells) = told-end (length s.jobs) is.last.ends index (told.Checkpointed hold release image) (rw is.jobs at got) in
      at ∙ ap Some (is-saved e hold release image tells)

  made : (index make release : ℕ) → slice_get report.jobs index ≡ Some (Some (told.Restored make release))
      → slice_get is.last.ends index ≡ Some (Worked (Restored restores.Done) make release)
  made index make release got =
      let (e, at, tells) = told-end (length s.jobs) is.last.ends index (told.Restored make release) (rw is.jobs at got) in
      at ∙ ap Some (is-made e make release tells)

pub reports_are_transparent : ReportsAreTransparent
reports_are_transparent s given first report keeps is_first is =
    let run = programs_run_transparently s given first is.last report.history is.run keeps is_first.world
    (record { whole = is_first.sound.whole; savable = is_first.sound.savable }) is_first.ends is_first.work is_first.events is.within in
    let grounded = programs_are_grounded s given first report.history keeps is_first.world
    (record { whole = is_first.sound.whole; savable = is_first.sound.savable }) is_first.ends is_first.work is_first.events is.within in
    record {
      run = run;
      saved = λ index moment birth path slot name image hold release at told.
          entries_are_saved s.jobs given servers first is.last report.history is.run run index moment birth path slot name image hold release at
          (saved s given first report is index hold release image told);
      plain = λ index moment birth path slot name image hold release at told.
          entries_are_plain s.jobs given servers first is.last report.history is.run grounded index moment birth path slot name image hold release at
          (saved s given first report is index hold release image told);
      made = λ index moment birth slot name bind make release at told.
          entries_are_made s.jobs given servers first is.last report.history is.run run index moment birth slot name bind make release at
          (made s given first report is index make release told);
      goes_on = λ from index moment birth path slot saves later other place name bind image hold release make done at told at_there told_there maker before.
          entries_go_on s.jobs given servers first is.last report.history is.run run from index moment birth path slot saves later other place name bind image
          hold release make done at (saved s given first report is from hold release image told) at_there
          (made s given first report is index make done told_there) maker before;
    }
